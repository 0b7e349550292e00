use Rattle.py_grammar.proofs.Exact.Whole.{one_tree}
use Rattle.py_grammar.proofs.laws.one_tree.Goals as goal

pub returns : goal.returns
returns c = record { one_expression = one_tree }
