use Rattle.std.proofs.Common.{arith}
use Rattle.py_statements.proofs.View.HeaderPlaces.{begins_there}
use Rattle.py_statements.proofs.match_headers.begins_line.Goals as goal

pub returns-else-at-eq0 : goal.returns-else-at-eq0
returns-else-at-eq0 c = grind (arith, begins_there)
