use Rattle.std.proofs.Common.{arith}
use Rattle.py_statements.proofs.View.OneMore.{exprs_snoc}
use Rattle.py_statements.proofs.after_expression.add_expr.Goals as goal

pub returns : goal.returns
returns c = grind (arith, exprs_snoc)
