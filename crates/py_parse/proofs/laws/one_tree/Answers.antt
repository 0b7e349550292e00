use Rattle.py_parse.proofs.Exact.WholeTokens.{one_tree}
use Rattle.py_parse.proofs.laws.one_tree.Goals as goal

pub returns : goal.returns
returns c = record { one_module = one_tree }
