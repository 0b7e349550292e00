use Rattle.std.proofs.Common.{max, false, refl, arith}
use Rattle.py_syntax.specs.Normal.{height, heights}
use Rattle.py_grammar.specs.Machine.{on, in_items, a_call}
use Rattle.py_grammar.specs.Budgets.{postfix}
use Rattle.py_parse_expr.specs.ExprViews.{view_measured, view_row}
use Rattle.py_parse_expr.proofs.Least.Budgets.{postfix_low, below_budget, list_budget}
use Rattle.py_parse_expr.proofs.expr_stack.budget_in_items.Goals as goal

pub returns-in-Call : goal.returns-in-Call
returns-in-Call c =
    let valid = rw c.in-Call.is at c.requires.opener in
    rw c.in-Call.is (λ limit k low is. below_budget limit (on (in_items (a_call (view_measured c.in-Call.callee)) (view_row c.args.items.now)) k) c.below.result c.higher.result (max (height (view_measured c.in-Call.callee)) (heights (view_row c.args.items.now))) c.postfix-budget.result (postfix limit k false) c.below.ensures.target c.below.ensures.other c.below.ensures.wants (let b = valid.height in let d = c.requires.items.height in omega (arith, c.higher.ensures)) (c.postfix-budget.ensures limit k is) (postfix_low limit k false) low refl refl refl)

pub returns-in-List : goal.returns-in-List
returns-in-List c =
    rw c.in-List.is (λ limit k low is. list_budget limit k c.args.items.now c.args.outer (record { target = c.under.result; other = c.under-in-List.result; wants = c.both.result }) c.postfix.result c.postfix-in-List.result c.requires.items is low c.under.ensures (c.postfix.ensures limit k is) c.under-in-List.ensures (c.postfix-in-List.ensures limit k is) c.both.ensures)
