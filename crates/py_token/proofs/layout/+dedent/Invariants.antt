use Rattle.std.proofs.Common.{length}
use Rattle.py_token.proofs.layout.+dedent.Given as goal

abbrev pub decreases-dedent : goal.decreases-dedent
decreases-dedent l = length l.indents.now.items
