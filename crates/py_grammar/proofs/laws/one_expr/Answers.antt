use Rattle.py_grammar.proofs.Exact.ExprPlaces.{one_expr}
use Rattle.py_grammar.proofs.laws.one_expr.Goals as goal

pub returns : goal.returns
returns c = one_expr
