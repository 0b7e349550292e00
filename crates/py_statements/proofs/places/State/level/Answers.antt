use Rattle.std.proofs.Common.{arith}
use Rattle.py_statements.proofs.View.OneMore.{open_count_is}
use Rattle.py_statements.proofs.places.State.level.Goals as goal

pub returns-then-begins : goal.returns-then-begins
returns-then-begins c = grind (arith, open_count_is)
