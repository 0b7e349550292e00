use Rattle.std.proofs.Common.{refl, sym}
use Rattle.cov_outside.proofs.PrefixLemmas.{loses_nothing}
use Rattle.py_value.specs.HeapView.{plain_heap}
use Rattle.py_builtins.specs.Inputs.{Wrote}
use Rattle.py_builtins.proofs.Asking.{gains_all, line_gives}
use Rattle.py_builtins.proofs.Turns.{on_err, still_line, all_lost}
use Rattle.py_builtins.proofs.input.ask_with.Goals as goal

pub returns-in_err-write_prompt-clause-no_further : goal.returns-in_err-write_prompt-clause-no_further
returns-in_err-write_prompt-clause-no_further g c = λ t. on_err c.from_residual.result (still_line (g.I.Source.left c.args.input.now))

pub returns-in_err-text-clause-gained : goal.returns-in_err-text-clause-gained
returns-in_err-text-clause-gained g c = λ t. on_err c.from_residual-in_err-text.result (gains_all _ _ _ (c.in_ok-write_prompt.ensures.written t))

pub returns-in_err-text_answer-clause-gained : goal.returns-in_err-text_answer-clause-gained
returns-in_err-text_answer-clause-gained g c = λ t. on_err c.from_residual-in_err-text_answer.result (gains_all _ _ _ (c.in_ok-write_prompt.ensures.written t))

pub returns-in_err-text_answer-clause-no_further : goal.returns-in_err-text_answer-clause-no_further
returns-in_err-text_answer-clause-no_further g c = λ t. on_err c.from_residual-in_err-text_answer.result (loses_nothing _ _ (sym (c.in_ok-text.ensures.left t)))

pub returns-in_err-text_answer-clause-lost : goal.returns-in_err-text_answer-clause-lost
returns-in_err-text_answer-clause-lost g c = λ t.
    on_err c.from_residual-in_err-text_answer.result (all_lost (g.I.Source.left c.args.input.now) (g.I.Source.left c.read_text.new.input) (c.in_ok-text.ensures.left t))

pub returns-clause-answer : goal.returns-clause-answer
returns-clause-answer g c =
    line_gives _ _ _ c.args.prompt.now (plain_heap c.args.heap.now) c.in_ok-text.text _
    (Wrote g.O.Sink.tells (g.O.Sink.contents c.args.out.now) (g.O.Sink.contents c.write_prompt.new.out))
    (c.in_ok-text_answer.ensures (plain_heap c.args.heap.now) _ refl) (λ t. c.in_ok-write_prompt.ensures.written t) c.in_ok-text.ensures.text
