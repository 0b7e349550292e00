use Rattle.py_grammar.proofs.Exact.ExprPlaces.{one_exprs}
use Rattle.py_grammar.proofs.laws.one_exprs.Goals as goal

pub returns : goal.returns
returns c = one_exprs
