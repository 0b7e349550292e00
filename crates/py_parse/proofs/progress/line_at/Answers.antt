use Rattle.std.proofs.Common.{arith}
use Rattle.py_parse.proofs.View.Turning.{line_at_rules}
use Rattle.py_parse.proofs.progress.line_at.Goals as goal

pub returns-then-place-tokens : goal.returns-then-place-tokens
returns-then-place-tokens c = grind (arith, line_at_rules)

pub returns-else-place-eq0 : goal.returns-else-place-eq0
returns-else-place-eq0 c = grind (arith, line_at_rules)
