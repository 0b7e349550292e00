use Rattle.std.proofs.lemmas.Grind.{common_steps}
use Rattle.std.proofs.Common.{◌≡◌, Ok, refl, ap, sym, ◌∙◌, arith}
use Rattle.cov_outside.proofs.PrefixLemmas.{gains_nothing}
use Rattle.py_text.specs.declared.text.Text.{Text}
use Rattle.py_value.specs.HeapView.{plain_heap}
use Rattle.py_value.specs.View.{plains, plain_answer}
use Rattle.py_builtins.specs.Builtins.{Done, str_texts}
use Rattle.py_builtins.specs.Calls.{printed_text}
use Rattle.py_builtins.proofs.Printing.{printed_line}
use Rattle.py_builtins.proofs.Turns.{on_err}
use Rattle.py_builtins.proofs.print.print.Goals as goal

pub returns-in_err-line-clause-gained : goal.returns-in_err-line-clause-gained
returns-in_err-line-clause-gained g c = λ t. on_err c.from_residual.result (gains_nothing _ _ _ refl)

pub returns-in_ok-write-in-Ok-clause-answer : goal.returns-in_ok-write-in-Ok-clause-answer
returns-in_ok-write-in-Ok-clause-answer g c =
    let same : plain_answer {A = Text} (Ok c.in-Ok.line) ≡ printed_text (plains c.args.args.now) (plain_heap c.args.heap.now) = ap plain_answer (sym c.in-Ok.is) ∙ c.in_ok-line.ensures in
    ap (λ (d : Done). d.answer) (printed_line (str_texts (plains c.args.args.now) (plain_heap c.args.heap.now)) (plain_heap c.args.heap.now) c.in-Ok.line same)

pub returns-in-Err-clause-answer : goal.returns-in-Err-clause-answer
returns-in-Err-clause-answer g c = grind (arith, common_steps)
