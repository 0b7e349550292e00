use Rattle.py_parse_pattern.proofs.Exact as exact
use Rattle.py_parse_pattern.proofs.laws.one_pattern.Goals as goal

pub returns : goal.returns
returns c = exact.one_pattern
