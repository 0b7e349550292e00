use Rattle.py_parse_expr.proofs.expr_steps.leave.Goals as goal

pub returns-in-Target : goal.returns-in-Target
returns-in-Target c = rw c.in-Target.is c.leave_first.ensures

pub returns-in-Targets : goal.returns-in-Targets
returns-in-Targets c = rw c.in-Targets.is c.leave_next.ensures
