use Rattle.std.proofs.lemmas.Grind.{common_steps}
use Rattle.std.proofs.Common.{arith}
use Rattle.py_instructions.proofs.making.may_all_nest.Goals as goal

pub returns-then-not-may_nest : goal.returns-then-not-may_nest
returns-then-not-may_nest c = grind (arith, common_steps)
