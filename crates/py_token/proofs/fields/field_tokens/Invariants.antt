use Rattle.std.proofs.Common.{length}
use Rattle.py_token.specs.View.{view_tokens}
use Rattle.py_token.proofs.FieldBodies.{Reads}
use Rattle.py_token.proofs.fields.field_tokens.Given as goal

abbrev pub invariant-tokens : goal.invariant-tokens
invariant-tokens l = Reads l.limit l.line l.chars (view_tokens l.tokens.items) l.depth l.rest

abbrev pub decreases-tokens : goal.decreases-tokens
decreases-tokens l = length l.rest
