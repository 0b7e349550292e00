use Rattle.py_grammar.proofs.Exact.ExprPlaces.{is_exact}
use Rattle.py_grammar.proofs.laws.exact_ends.Goals as goal

pub returns : goal.returns
returns c = is_exact
