use Rattle.std.proofs.Common.{arith}
use Rattle.std.proofs.lemmas.Grind.{common_steps}
use Rattle.py_statements.proofs.in_statement.at_block.Goals as goal

pub returns : goal.returns
returns c = grind (arith, common_steps)

pub returns-then-not-is_a : goal.returns-then-not-is_a
returns-then-not-is_a c = grind (arith, common_steps)
