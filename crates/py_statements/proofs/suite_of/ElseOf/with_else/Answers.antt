use Rattle.std.proofs.Common.{arith}
use Rattle.std.proofs.lemmas.Grind.{common_steps}
use Rattle.py_statements.proofs.suite_of.ElseOf.with_else.Goals as goal

pub returns-in-Try : goal.returns-in-Try
returns-in-Try c = grind (arith, common_steps)
