use Rattle.std.proofs.lemmas.Grind.{common_steps}
use Rattle.std.proofs.Common.{refl, arith}
use Rattle.py_scope.proofs.Gathering.{seen, at_end}
use Rattle.py_scope.proofs.body.Body.take_all.Goals as goal

pub returns : goal.returns
returns c = at_end seen (λ xs. xs) refl _ _ _ _ c.loop-occurrence-test.false c.loop-occurrence.invariant

pub loop-occurrence-preserved : goal.loop-occurrence-preserved
loop-occurrence-preserved c = grind (arith, common_steps)
