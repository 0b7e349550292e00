use Rattle.std.proofs.Common.{arith}
use Rattle.std.proofs.lemmas.Grind.{common_steps}
use Rattle.py_statements.proofs.after_suite.else_wanted.Goals as goal

pub returns : goal.returns
returns c = grind (arith, common_steps)
