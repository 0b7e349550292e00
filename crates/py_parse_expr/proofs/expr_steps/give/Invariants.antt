use Rattle.std.proofs.Common.{length}
use Rattle.py_grammar.specs.Machine.{give}
use Rattle.py_parse_expr.specs.ExprViews.{view_measured, view_class}
use Rattle.py_parse_expr.specs.ExprStacks.{view_stack}
use Rattle.py_parse_expr.proofs.View.ExprSteps.{Giving}
use Rattle.py_parse_expr.proofs.expr_steps.give.Given as goal

abbrev pub invariant-frames : goal.invariant-frames
invariant-frames l = Giving (give (view_measured l.fn.measured) (view_stack l.fn.stack) (view_class l.class)) l.fn.stack.limit (view_class l.class) l.measured l.stack

abbrev pub decreases-frames : goal.decreases-frames
decreases-frames l = length l.stack.frames.items
