use Rattle.std.proofs.Common.{◌-◌, length}
use Rattle.py_token.specs.View.{view_tokens}
use Rattle.py_statements.specs.ViewStates.{view_state}
use Rattle.py_parse.specs.Progress.{StandsAt}
use Rattle.py_parse.proofs.parser.parse.Given as goal

abbrev pub invariant-tokens : goal.invariant-tokens
invariant-tokens l = StandsAt (view_tokens l.tokens) l.place (view_state l.state)

abbrev pub decreases-tokens : goal.decreases-tokens
decreases-tokens l = length l.tokens - l.place
