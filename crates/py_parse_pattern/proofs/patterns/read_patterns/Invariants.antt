use Rattle.std.proofs.Common.{◌-◌, length}
use Rattle.py_token.specs.View.{view_tokens}
use Rattle.py_syntax.specs.Kinds.{bare}
use Rattle.py_parse_pattern.proofs.View.Tokens.{Reading}
use Rattle.py_parse_pattern.proofs.patterns.read_patterns.Given as goal

abbrev pub invariant-tokens : goal.invariant-tokens
invariant-tokens l = Reading (bare (view_tokens l.tokens)) l.fn.at l.place l.reader

abbrev pub decreases-tokens : goal.decreases-tokens
decreases-tokens l = length l.tokens - l.place
