use Rattle.std.proofs.Common.{true, false, refl, arith}
use Rattle.py_syntax.specs.Tree.{list, call, no_exprs}
use Rattle.py_parse_expr.specs.ExprViews.{view_measured}
use Rattle.py_parse_expr.proofs.Least.ExprLimits.{has_post}
use Rattle.py_parse_expr.proofs.expr_limits.is_within_budget_open.Goals as goal

pub returns-in-Call : goal.returns-in-Call
returns-in-Call c =
    let valid = rw c.in-Call.is at c.requires in
    rw c.in-Call.is (λ limit k low is. has_post limit k (call (view_measured c.in-Call.callee) no_exprs false) c.over.result c.postfix.result false (let b = valid.height in omega (arith, c.over.ensures)) refl (c.postfix.ensures limit k is) low)

pub returns-in-List : goal.returns-in-List
returns-in-List c = rw c.in-List.is (λ limit k low is. has_post limit k (list no_exprs false) 1 c.postfix-in-List.result true refl refl (c.postfix-in-List.ensures limit k is) low)
