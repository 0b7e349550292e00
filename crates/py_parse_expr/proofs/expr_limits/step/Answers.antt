use Rattle.py_grammar.specs.Machine.{step}
use Rattle.py_parse_expr.specs.ExprViews.{view_class}
use Rattle.py_parse_expr.specs.ExprStacks.{view_stack}
use Rattle.py_parse_expr.specs.ExprTurns.{view_at}
use Rattle.py_parse_expr.proofs.Least.ExprLimits.{step_within, step_beyond}
use Rattle.py_parse_expr.proofs.expr_limits.step.Goals as goal

pub returns-then-not-is_within_budget : goal.returns-then-not-is_within_budget
returns-then-not-is_within_budget c = step_beyond (step (view_at c.args.progress (view_stack c.args.stack.now)) (view_class c.args.class)) c.args.stack.now.limit c.act.new.stack c.in-Next.next c.is_within_budget.result (rw c.in-Next.is at c.in_ok-next.ensures) c.is_within_budget.ensures c.if-not-is_within_budget.true

pub returns-else-not-is_within_budget : goal.returns-else-not-is_within_budget
returns-else-not-is_within_budget c = step_within (step (view_at c.args.progress (view_stack c.args.stack.now)) (view_class c.args.class)) c.args.stack.now.limit c.act.new.stack c.in-Next.next c.is_within_budget.result (rw c.in-Next.is at c.in_ok-next.ensures) c.is_within_budget.ensures c.if-not-is_within_budget.false
