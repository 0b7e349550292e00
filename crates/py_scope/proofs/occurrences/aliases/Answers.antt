use Rattle.std.proofs.lemmas.Grind.{common_steps}
use Rattle.std.proofs.Common.{refl, arith}
use Rattle.py_syntax.specs.View.{plain_aliases}
use Rattle.py_scope.specs.Occurrences.{in_aliases}
use Rattle.py_scope.proofs.Gathering.{listed, at_end}
use Rattle.py_scope.proofs.occurrences.aliases.Goals as goal

pub returns : goal.returns
returns c = at_end listed (λ xs. in_aliases (plain_aliases xs)) refl _ _ _ _ c.loop-alias-test.false c.loop-alias.invariant

pub loop-alias-preserved : goal.loop-alias-preserved
loop-alias-preserved c = grind (arith, common_steps)
