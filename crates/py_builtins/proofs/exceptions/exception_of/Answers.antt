use Rattle.std.proofs.Common.{arith, rules}
use Rattle.std.proofs.lemmas.Grind.{common_steps}
use Rattle.py_builtins.proofs.exceptions.exception_of.Goals as goal

pub returns-then-not-may_nest : goal.returns-then-not-may_nest
returns-then-not-may_nest c = c.raise-then-not-may_nest.ensures.value _ (first_of (search rules, grind (arith, common_steps)))
