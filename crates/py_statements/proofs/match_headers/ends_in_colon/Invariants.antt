use Rattle.std.proofs.Common.{◌-◌, length}
use Rattle.py_statements.proofs.View.HeaderPlaces.{Ending}
use Rattle.py_statements.proofs.match_headers.ends_in_colon.Given as goal

abbrev pub invariant-tokens : goal.invariant-tokens
invariant-tokens l = Ending l.tokens l.fn.from l.at l.colon

abbrev pub decreases-tokens : goal.decreases-tokens
decreases-tokens l = length l.tokens - l.at
