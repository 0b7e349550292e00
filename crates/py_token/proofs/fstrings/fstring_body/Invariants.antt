use Rattle.std.proofs.Common.{length}
use Rattle.py_token.specs.View.{view_pieces}
use Rattle.py_token.proofs.FStringBodies.{Reads}
use Rattle.py_token.proofs.fstrings.fstring_body.Given as goal

abbrev pub invariant-string_items : goal.invariant-string_items
invariant-string_items l = Reads l.opening.quote l.opening.triple l.opening.line l.chars (view_pieces l.pieces.items) l.held l.line l.rest l.limit

abbrev pub decreases-string_items : goal.decreases-string_items
decreases-string_items l = length l.rest
