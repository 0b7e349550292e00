use Rattle.std.proofs.lemmas.Grind.{common_steps}
use Rattle.std.proofs.Common.{refl, arith}
use Rattle.py_scope.specs.Occurrences.{declaring}
use Rattle.py_scope.proofs.Gathering.{listed, at_end}
use Rattle.py_scope.proofs.occurrences.declared.Goals as goal

pub returns : goal.returns
returns c = at_end listed (λ xs. declaring c.args.line xs) refl _ _ _ _ c.loop-name-test.false c.loop-name.invariant

pub loop-name-preserved : goal.loop-name-preserved
loop-name-preserved c = grind (arith, common_steps)
