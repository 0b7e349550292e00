use Rattle.std.proofs.Common.{true, false, refl, sym, arith}
use Rattle.py_syntax.specs.Tree.{list, call}
use Rattle.py_parse_expr.specs.ExprViews.{view_measured, view_row}
use Rattle.py_parse_expr.proofs.Least.ExprLimits.{has_post}
use Rattle.py_parse_expr.proofs.expr_limits.is_within_budget_comma.Goals as goal

pub returns-in-Call : goal.returns-in-Call
returns-in-Call c =
    let valid = rw c.in-Call.is at c.requires.opener in
    rw c.in-Call.is (λ limit k low is. has_post limit k (call (view_measured c.in-Call.callee) (view_row c.args.items.now) true) c.over.result c.postfix.result false (let b = valid.height in let d = c.requires.items.height in omega (arith, c.higher.ensures, c.over.ensures)) refl (c.postfix.ensures limit k is) low)

pub returns-in-List : goal.returns-in-List
returns-in-List c = rw c.in-List.is (λ limit k low is. has_post limit k (list (view_row c.args.items.now) true) c.over-in-List.result c.postfix-in-List.result c.args.items.now.targets (let d = c.requires.items.height in omega (arith, c.over-in-List.ensures)) (sym c.requires.items.targets) (c.postfix-in-List.ensures limit k is) low)
