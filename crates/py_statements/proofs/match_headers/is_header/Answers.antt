use Rattle.std.proofs.Common.{arith}
use Rattle.py_statements.proofs.View.HeaderPlaces.{no_header_rules}
use Rattle.py_statements.proofs.match_headers.is_header.Goals as goal

pub returns-then-not-is_match : goal.returns-then-not-is_match
returns-then-not-is_match c = grind (arith, no_header_rules)
