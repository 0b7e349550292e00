use Rattle.std.proofs.lemmas.Grind.{common_steps}
use Rattle.std.proofs.Common.{arith}
use Rattle.py_parse_expr.proofs.expr_stack.Stack.push.Goals as goal

pub returns-clause-view : goal.returns-clause-view
returns-clause-view c = grind (arith, common_steps)

pub returns-clause-valid : goal.returns-clause-valid
returns-clause-valid c = grind (arith, common_steps)
