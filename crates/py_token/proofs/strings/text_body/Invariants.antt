use Rattle.std.proofs.Common.{length}
use Rattle.py_token.proofs.TextBodies.{Reads}
use Rattle.py_token.proofs.strings.text_body.Given as goal

abbrev pub invariant-string_items : goal.invariant-string_items
invariant-string_items l = Reads l.opening.raw l.opening.quote l.opening.triple l.opening.line l.chars l.text l.line l.rest

abbrev pub decreases-string_items : goal.decreases-string_items
decreases-string_items l = length l.rest
