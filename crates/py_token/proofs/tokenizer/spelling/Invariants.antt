use Rattle.std.proofs.Common.{length}
use Rattle.py_token.specs.View.{view_tokens}
use Rattle.py_token.specs.ViewLayout.{view_state}
use Rattle.py_token.proofs.Reading.{Reads}
use Rattle.py_token.proofs.tokenizer.spelling.Given as goal

abbrev pub invariant-segments : goal.invariant-segments
invariant-segments l = Reads l.chars l.last (view_tokens l.tokens.items) (view_state l.state) l.line l.rest

abbrev pub decreases-segments : goal.decreases-segments
decreases-segments l = length l.rest
