use Rattle.std.proofs.Common.{arith}
use Rattle.std.proofs.lemmas.Grind.{common_steps}
use Rattle.py_statements.proofs.places.State.at_line.Goals as goal

pub returns-in-Line : goal.returns-in-Line
returns-in-Line c = grind (arith, common_steps)

pub returns-in-Choosing : goal.returns-in-Choosing
returns-in-Choosing c = grind (arith, common_steps)

pub returns-in-At : goal.returns-in-At
returns-in-At c = grind (arith, common_steps)

pub returns-in-Over : goal.returns-in-Over
returns-in-Over c = grind (arith, common_steps)

pub returns-in-After : goal.returns-in-After
returns-in-After c = grind (arith, common_steps)
