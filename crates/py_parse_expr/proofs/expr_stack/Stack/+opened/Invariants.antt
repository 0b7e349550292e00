use Rattle.std.proofs.Common.{◌+◌, ◌*◌}
use Rattle.py_syntax.specs.Normal.{rank}
use Rattle.py_parse_fields.specs.Frames.{view_precedence}
use Rattle.py_parse_expr.proofs.expr_stack.Stack.+opened.Given as goal

abbrev pub decreases-opened : goal.decreases-opened
decreases-opened l = 2 * rank (view_precedence l.to)

abbrev pub decreases-opened_with : goal.decreases-opened_with
decreases-opened_with l = 2 * rank (view_precedence l.looser) + 1
