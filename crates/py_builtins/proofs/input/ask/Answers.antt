use Rattle.std.proofs.Common.{◌≡◌, ◌++◌, Ok, Err, OnOk, ap, refl, sym, ◌∙◌, subst, append-nil}
use Rattle.cov_outside.proofs.PrefixLemmas.{gains_nothing, loses_nothing}
use Rattle.py_text.specs.declared.text.Text.{Text}
use Rattle.py_value.specs.HeapView.{plain_heap}
use Rattle.py_value.specs.View.{plains, plain_answer, plain_raised}
use Rattle.py_builtins.specs.Builtins.{Done, input_of}
use Rattle.py_builtins.specs.Calls.{prompt_of}
use Rattle.py_builtins.specs.Inputs.{Gives, Wrote}
use Rattle.py_builtins.proofs.Turns.{on_err}
use Rattle.py_builtins.proofs.Asking.{asks_with, still_asked, gives_same, reads_none}
use Rattle.py_builtins.proofs.input.ask.Goals as goal

pub returns-in_err-prompt-clause-gained : goal.returns-in_err-prompt-clause-gained
returns-in_err-prompt-clause-gained g c = λ t. on_err c.from_residual.result (gains_nothing _ _ _ refl)

pub returns-in_err-prompt-clause-lost : goal.returns-in_err-prompt-clause-lost
returns-in_err-prompt-clause-lost g c = λ t. on_err c.from_residual.result (loses_nothing _ _ refl)

pub returns-in_err-prompt-clause-no_further : goal.returns-in_err-prompt-clause-no_further
returns-in_err-prompt-clause-no_further g c = λ t. on_err c.from_residual.result (still_asked (plains c.args.args.now) (plain_heap c.args.heap.now) (g.I.Source.left c.args.input.now))

pub returns-in-Ok-clause-answer : goal.returns-in-Ok-clause-answer
returns-in-Ok-clause-answer g c =
    let same : plain_answer {A = Text} (Ok c.in-Ok.prompt) ≡ prompt_of (plains c.args.args.now) (plain_heap c.args.heap.now) = ap plain_answer (sym c.in-Ok.is) ∙ c.in_ok-prompt.ensures in
    gives_same c.ask_with.result _ _ _ (plain_heap c.args.heap.now) (Wrote g.O.Sink.tells (g.O.Sink.contents c.args.out.now) (g.O.Sink.contents c.ask_with.new.out)) _ (input_of (plains c.args.args.now) (plain_heap c.args.heap.now))
    (λ all. asks_with (plains c.args.args.now) (plain_heap c.args.heap.now) _ all same) c.ask_with.ensures.answer

pub returns-in-Ok-clause-written : goal.returns-in-Ok-clause-written
returns-in-Ok-clause-written g c = λ t.
    let same : plain_answer {A = Text} (Ok c.in-Ok.prompt) ≡ prompt_of (plains c.args.args.now) (plain_heap c.args.heap.now) = ap plain_answer (sym c.in-Ok.is) ∙ c.in_ok-prompt.ensures in
    let w = c.ask_with.ensures.written t in
    subst (λ (d : Done). OnOk c.ask_with.result (g.O.Sink.contents c.ask_with.new.out ≡ g.O.Sink.contents c.args.out.now ++ d.written))
    (asks_with (plains c.args.args.now) (plain_heap c.args.heap.now) _ (g.I.Source.left c.args.input.now) same) w

pub returns-in-Ok-clause-left : goal.returns-in-Ok-clause-left
returns-in-Ok-clause-left g c = λ t.
    let same : plain_answer {A = Text} (Ok c.in-Ok.prompt) ≡ prompt_of (plains c.args.args.now) (plain_heap c.args.heap.now) = ap plain_answer (sym c.in-Ok.is) ∙ c.in_ok-prompt.ensures in
    let w = c.ask_with.ensures.left t in
    subst (λ (d : Done). OnOk c.ask_with.result (g.I.Source.left c.ask_with.new.input ≡ d.left))
    (asks_with (plains c.args.args.now) (plain_heap c.args.heap.now) _ (g.I.Source.left c.args.input.now) same) w

pub returns-in-Err-clause-answer : goal.returns-in-Err-clause-answer
returns-in-Err-clause-answer g c =
    let same : plain_answer {A = Text} (Err c.in-Err.raised) ≡ prompt_of (plains c.args.args.now) (plain_heap c.args.heap.now) = ap plain_answer (sym c.in-Err.is) ∙ c.in_ok-prompt.ensures in
    let out = g.O.Sink.contents c.args.out.now in
    reads_none _ _ _ (Wrote g.O.Sink.tells out out) (input_of (plains c.args.args.now) (plain_heap c.args.heap.now))
    (λ all. subst (λ (d : Done). Gives d (Err (plain_raised c.in-Err.raised)) (Wrote g.O.Sink.tells out out) all) (asks_with (plains c.args.args.now) (plain_heap c.args.heap.now) _ all same) (refl, (λ t. sym (append-nil out)), refl))
