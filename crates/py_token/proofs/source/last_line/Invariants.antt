use Rattle.std.proofs.Common.{◌≡◌, ◌+◌, cond, max, length}
use Rattle.py_token.specs.Source.{line_count}
use Rattle.py_token.proofs.source.last_line.Given as goal

abbrev pub invariant-lines : goal.invariant-lines
invariant-lines l = l.ends + cond l.open (max 1 (line_count l.rest)) (line_count l.rest) ≡ line_count l.chars

abbrev pub decreases-lines : goal.decreases-lines
decreases-lines l = length l.rest
