use Rattle.py_compile_expr.proofs.ExpressionRuns.{expressions_run}
use Rattle.py_compile_expr.proofs.expressions_run.Goals as goal

pub returns : goal.returns
returns c = expressions_run
