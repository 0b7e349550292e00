use Rattle.std.proofs.Common.{ap, sym, ◌∙◌, ◌==◌}
use Rattle.py_compile_expr.specs.Cells.{place_in, add_new}
use Rattle.py_compile_expr.proofs.NumberLaws.{place-number, added-number, of_answer}
use Rattle.py_compile_expr.proofs.Turns.{the_number}
use Rattle.py_compile_unit.proofs.Errs.{if_err}
use Rattle.py_compile_unit.proofs.Numbers.{place_new, line_is_same}
use Rattle.py_compile_unit.proofs.lines.Lines.place.Goals as goal

pub returns-clause-place : goal.returns-clause-place
returns-clause-place c =
    the_number c.number.result _ _ c.number.ensures
    (c.in_ok-place.ensures.index ∙ sym (place-number c.self.inside.all.keys c.args.line) ∙ place_new (λ a b. a == b) c.args.line (line_is_same c.args.line) c.self.inside.all.keys
    ∙ ap (λ s. place_in (λ a b. a == b) s c.args.line) (sym (c.in_ok-place.ensures.keys ∙ sym (added-number c.self.inside.all.keys c.args.line))))

pub returns-clause-added : goal.returns-clause-added
returns-clause-added c =
    of_answer c.number.result _
    (c.in_ok-place.ensures.keys ∙ sym (added-number c.self.inside.all.keys c.args.line) ∙ ap (λ s. add_new (λ a b. a == b) s c.args.line) c.self.view_is)

pub returns-in_err-place-clause-added : goal.returns-in_err-place-clause-added
returns-in_err-place-clause-added c = if_err _ _ c.from_residual.ensures.0

pub returns-in_err-place-clause-place : goal.returns-in_err-place-clause-place
returns-in_err-place-clause-place c = if_err _ _ c.from_residual.ensures.0
