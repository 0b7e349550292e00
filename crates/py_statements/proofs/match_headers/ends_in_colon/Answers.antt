use Rattle.std.proofs.Common.{arith}
use Rattle.py_statements.proofs.View.HeaderPlaces.{line_end_rules}
use Rattle.py_statements.proofs.match_headers.ends_in_colon.Goals as goal

pub returns-then-is_a : goal.returns-then-is_a
returns-then-is_a c = grind (arith, line_end_rules)

pub tokens-preserved : goal.tokens-preserved
tokens-preserved c = grind (arith, line_end_rules)
