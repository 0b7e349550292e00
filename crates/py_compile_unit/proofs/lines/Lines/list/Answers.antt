use Rattle.std.proofs.lemmas.Grind.{common_steps}
use Rattle.std.proofs.Common.{refl, ◌∙◌, arith}
use Rattle.py_compile_expr.proofs.Turns.{none_added}
use Rattle.py_compile_unit.proofs.Errs.{if_err}
use Rattle.py_compile_unit.proofs.lines.Lines.list.Goals as goal

pub returns : goal.returns
returns c = none_added (λ xs. xs) refl _ _ _ _ c.loop-line-test.false c.loop-line.invariant ∙ c.as_slice-lines.ensures.keys ∙ c.self.view_is

pub returns-in_err-push : goal.returns-in_err-push
returns-in_err-push c = if_err _ _ c.from_residual.ensures.0

pub loop-line-preserved : goal.loop-line-preserved
loop-line-preserved c = grind (arith, common_steps)
