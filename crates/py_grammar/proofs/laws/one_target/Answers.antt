use Rattle.py_grammar.proofs.Exact.ExprPlaces.{one_target}
use Rattle.py_grammar.proofs.laws.one_target.Goals as goal

pub returns : goal.returns
returns c = one_target
