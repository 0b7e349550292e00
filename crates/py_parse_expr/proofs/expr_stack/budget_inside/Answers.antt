use Rattle.std.proofs.Common.{max, true, false, refl, arith}
use Rattle.py_syntax.specs.Normal.{height, height_entries, height_links, height_bound}
use Rattle.py_syntax.specs.View.{plain_expr}
use Rattle.py_grammar.specs.Machine.{on, cond_test, cond_else, right, compare_rest, index_first, in_index, slice_to, in_key, in_value}
use Rattle.py_grammar.specs.Budgets.{budget, postfix}
use Rattle.py_parse_fields.specs.Frames.{view_operator}
use Rattle.py_parse_expr.specs.ExprViews.{view_measured, view_entries, view_links, view_bound}
use Rattle.py_parse_expr.proofs.Least.Budgets.{budget_low, postfix_low, below_budget}
use Rattle.py_parse_expr.proofs.expr_stack.budget_inside.Goals as goal

pub returns-in-CondTest : goal.returns-in-CondTest
returns-in-CondTest c =
    let valid = rw c.in-CondTest.is at c.requires in
    rw c.in-CondTest.is (λ limit k low is. below_budget limit (on (cond_test (view_measured c.in-CondTest.body)) k) c.below.result c.higher.result (max (height (view_measured c.in-CondTest.body)) 1) c.args.outer.other (budget limit k false) c.below.ensures.target c.below.ensures.other c.below.ensures.wants (let b = valid.height in omega (arith, c.higher.ensures)) (is.other) (budget_low limit k false) low refl refl refl)

pub returns-in-CondElse : goal.returns-in-CondElse
returns-in-CondElse c =
    let valid = rw c.in-CondElse.is at c.requires in
    rw c.in-CondElse.is (λ limit k low is. below_budget limit (on (cond_else (view_measured c.in-CondElse.body) (view_measured c.in-CondElse.test)) k) c.below-in-CondElse.result c.higher-in-CondElse.result (max (height (view_measured c.in-CondElse.body)) (height (view_measured c.in-CondElse.test))) c.args.outer.other (budget limit k false) c.below-in-CondElse.ensures.target c.below-in-CondElse.ensures.other c.below-in-CondElse.ensures.wants (let b = valid.0.height in let d = valid.1.height in omega (arith, c.higher-in-CondElse.ensures)) (is.other) (budget_low limit k false) low refl refl refl)

pub returns-in-Right : goal.returns-in-Right
returns-in-Right c =
    let valid = rw c.in-Right.is at c.requires in
    rw c.in-Right.is (λ limit k low is. below_budget limit (on (right (view_operator c.in-Right.field-0) (view_measured c.in-Right.left)) k) c.below-in-Right.result c.in-Right.left.height (height (view_measured c.in-Right.left)) c.args.outer.other (budget limit k false) c.below-in-Right.ensures.target c.below-in-Right.ensures.other c.below-in-Right.ensures.wants (valid.height) (is.other) (budget_low limit k false) low refl refl refl)

pub returns-in-CompareRest : goal.returns-in-CompareRest
returns-in-CompareRest c =
    let valid = rw c.in-CompareRest.is at c.requires in
    rw c.in-CompareRest.is (λ limit k low is. below_budget limit (on (compare_rest (plain_expr c.in-CompareRest.chain.first.value) (view_links c.in-CompareRest.chain) c.in-CompareRest.field-1) k) c.below-in-CompareRest.result c.in-CompareRest.chain.height (max (height (plain_expr c.in-CompareRest.chain.first.value)) (height_links (view_links c.in-CompareRest.chain))) c.args.outer.other (budget limit k false) c.below-in-CompareRest.ensures.target c.below-in-CompareRest.ensures.other c.below-in-CompareRest.ensures.wants (valid) (is.other) (budget_low limit k false) low refl refl refl)

pub returns-in-IndexFirst : goal.returns-in-IndexFirst
returns-in-IndexFirst c =
    let valid = rw c.in-IndexFirst.is at c.requires in
    rw c.in-IndexFirst.is (λ limit k low is. below_budget limit (on (index_first (view_measured c.in-IndexFirst.of)) k) c.below-in-IndexFirst.result c.in-IndexFirst.of.height (height (view_measured c.in-IndexFirst.of)) c.args.outer.target (budget limit k true) c.below-in-IndexFirst.ensures.target c.below-in-IndexFirst.ensures.other c.below-in-IndexFirst.ensures.wants (valid.height) (is.target) (budget_low limit k true) low refl refl refl)

pub returns-in-InIndex : goal.returns-in-InIndex
returns-in-InIndex c =
    let valid = rw c.in-InIndex.is at c.requires in
    rw c.in-InIndex.is (λ limit k low is. below_budget limit (on (in_index (view_measured c.in-InIndex.of)) k) c.below-in-InIndex.result c.in-InIndex.of.height (height (view_measured c.in-InIndex.of)) c.args.outer.target (budget limit k true) c.below-in-InIndex.ensures.target c.below-in-InIndex.ensures.other c.below-in-InIndex.ensures.wants (valid.height) (is.target) (budget_low limit k true) low refl refl refl)

pub returns-in-SliceTo : goal.returns-in-SliceTo
returns-in-SliceTo c =
    let valid = rw c.in-SliceTo.is at c.requires in
    rw c.in-SliceTo.is (λ limit k low is. below_budget limit (on (slice_to (view_measured c.in-SliceTo.of) (view_bound c.in-SliceTo.from)) k) c.below-in-SliceTo.result c.higher-height.result (max (height (view_measured c.in-SliceTo.of)) (height_bound (view_bound c.in-SliceTo.from))) c.postfix-in-SliceTo.result (postfix limit k false) c.below-in-SliceTo.ensures.target c.below-in-SliceTo.ensures.other c.below-in-SliceTo.ensures.wants (let b = valid.0.height in omega (arith, c.higher-height.ensures, c.bound_height.ensures)) (c.postfix-in-SliceTo.ensures limit k is) (postfix_low limit k false) low refl refl refl)

pub returns-in-InKey : goal.returns-in-InKey
returns-in-InKey c =
    let valid = rw c.in-InKey.is at c.requires in
    rw c.in-InKey.is (λ limit k low is. below_budget limit (on (in_key (view_entries c.in-InKey.entries)) k) c.below-in-InKey.result c.higher-in-InKey.result (max (height_entries (view_entries c.in-InKey.entries)) 1) c.postfix-in-InKey.result (postfix limit k false) c.below-in-InKey.ensures.target c.below-in-InKey.ensures.other c.below-in-InKey.ensures.wants (omega (arith, c.higher-in-InKey.ensures, valid)) (c.postfix-in-InKey.ensures limit k is) (postfix_low limit k false) low refl refl refl)

pub returns-in-InValue : goal.returns-in-InValue
returns-in-InValue c =
    let valid = rw c.in-InValue.is at c.requires in
    rw c.in-InValue.is (λ limit k low is. below_budget limit (on (in_value (view_entries c.in-InValue.entries) (view_measured c.in-InValue.key)) k) c.below-in-InValue.result c.higher-height-in-InValue.result (max (height_entries (view_entries c.in-InValue.entries)) (height (view_measured c.in-InValue.key))) c.postfix-in-InValue.result (postfix limit k false) c.below-in-InValue.ensures.target c.below-in-InValue.ensures.other c.below-in-InValue.ensures.wants (let d = valid.1.height in omega (arith, c.higher-height-in-InValue.ensures, valid.0)) (c.postfix-in-InValue.ensures limit k is) (postfix_low limit k false) low refl refl refl)
