use Rattle.std.proofs.Common.{true, false, [], refl, sym, ◌∙◌, arith}
use Rattle.py_operator.specs.declared.operator.CmpOp.TheVariants.{NotIn}
use Rattle.py_syntax.specs.declared.expr.Comparison.TheVariants.{Op, Is, IsNot}
use Rattle.py_syntax.specs.Tree.{none, tuple, dict, compare, index, slice, attr, no_exprs, exprs, no_pairs, absent}
use Rattle.py_syntax.specs.View.{plain_expr}
use Rattle.py_grammar.specs.Machine.{snoc_link, strings_of}
use Rattle.py_grammar.specs.Least.{least_name}
use Rattle.py_parse_expr.specs.ExprViews.{view_measured, view_row, view_entries, view_links, view_strings, view_bound}
use Rattle.py_parse_expr.specs.ExprStacks.{head_of, tail_of, view_stack}
use Rattle.py_grammar.proofs.Least.Grows.{links_snoc}
use Rattle.py_grammar.proofs.Least.LeastNeverFalls.{strings_target}
use Rattle.py_parse_expr.proofs.Least.Budgets.{chosen, items_heights, items_targets}
use Rattle.py_parse_expr.proofs.Least.ExprLimits.{has_measured, has_post}
use Rattle.py_parse_expr.proofs.expr_limits.is_within_budget.Goals as goal

pub returns-in-Want : goal.returns-in-Want
returns-in-Want c = rw c.in-Want.is (has_measured c.args.stack.now.limit (view_stack c.args.stack.now) least_name 1 c.budget-budget.result.target true refl refl c.budget-budget.ensures.target c.requires.valid.low)

pub returns-in-Have : goal.returns-in-Have
returns-in-Have c =
    let valid = rw c.in-Have.is at c.requires.at in
    rw c.in-Have.is (has_measured c.args.stack.now.limit (view_stack c.args.stack.now) (view_measured c.in-Have.measured) c.in-Have.measured.height c.of.result c.in-Have.measured.target valid.height (sym valid.target) (c.of.ensures ∙ chosen c.args.stack.now.limit (view_stack c.args.stack.now) c.budget-budget.result c.in-Have.measured.target c.budget-budget.ensures) c.requires.valid.low)

pub returns-in-Strings : goal.returns-in-Strings
returns-in-Strings c = rw c.in-Strings.is (has_measured c.args.stack.now.limit (view_stack c.args.stack.now) (strings_of (view_strings c.in-Strings.strings)) c.height.result c.budget-budget.result.other false c.height.ensures (strings_target (view_strings c.in-Strings.strings)) c.budget-budget.ensures.other c.requires.valid.low)

pub returns-in-AfterOpen : goal.returns-in-AfterOpen
returns-in-AfterOpen c = rw c.in-AfterOpen.is (has_post c.args.stack.now.limit (view_stack c.args.stack.now) (tuple no_exprs false) 1 c.postfix.result true refl refl (c.postfix.ensures c.args.stack.now.limit (view_stack c.args.stack.now) c.budget-budget.ensures) c.requires.valid.low)

pub returns-in-AfterComma : goal.returns-in-AfterComma
returns-in-AfterComma c =
    let valid = rw c.in-AfterComma.is at c.requires.at in
    let es = view_row c.in-AfterComma.items in
    let high = valid.are.height in
    rw c.in-AfterComma.is (has_measured c.args.stack.now.limit (view_stack c.args.stack.now) (tuple (exprs (head_of es) (tail_of es)) true) c.over.result c.of-in-AfterComma.result c.in-AfterComma.items.targets (omega (arith, high, items_heights es valid.some, c.over.ensures)) (sym (valid.are.targets ∙ items_targets es valid.some)) (c.of-in-AfterComma.ensures ∙ chosen c.args.stack.now.limit (view_stack c.args.stack.now) c.budget-budget.result c.in-AfterComma.items.targets c.budget-budget.ensures) c.requires.valid.low)

pub returns-in-DictOpen : goal.returns-in-DictOpen
returns-in-DictOpen c = rw c.in-DictOpen.is (has_post c.args.stack.now.limit (view_stack c.args.stack.now) (dict no_pairs false) 1 c.postfix-in-DictOpen.result false refl refl (c.postfix-in-DictOpen.ensures c.args.stack.now.limit (view_stack c.args.stack.now) c.budget-budget.ensures) c.requires.valid.low)

pub returns-in-DictComma : goal.returns-in-DictComma
returns-in-DictComma c =
    let valid = rw c.in-DictComma.is at c.requires.at in
    rw c.in-DictComma.is (has_post c.args.stack.now.limit (view_stack c.args.stack.now) (dict (view_entries c.in-DictComma.entries) true) c.over-in-DictComma.result c.postfix-in-DictComma.result false (omega (arith, valid, c.over-in-DictComma.ensures)) refl (c.postfix-in-DictComma.ensures c.args.stack.now.limit (view_stack c.args.stack.now) c.budget-budget.ensures) c.requires.valid.low)

pub returns-in-IndexOpen : goal.returns-in-IndexOpen
returns-in-IndexOpen c =
    let valid = rw c.in-IndexOpen.is at c.requires.at in
    let high = valid.height in
    rw c.in-IndexOpen.is (has_measured c.args.stack.now.limit (view_stack c.args.stack.now) (index (view_measured c.in-IndexOpen.of) least_name) c.over-in-IndexOpen.result c.budget-budget.result.target true (omega (arith, high, c.higher.ensures, c.over-in-IndexOpen.ensures)) refl c.budget-budget.ensures.target c.requires.valid.low)

pub returns-in-SliceColon : goal.returns-in-SliceColon
returns-in-SliceColon c =
    let valid = rw c.in-SliceColon.is at c.requires.at in
    let high = valid.0.height in
    rw c.in-SliceColon.is (has_post c.args.stack.now.limit (view_stack c.args.stack.now) (slice (view_measured c.in-SliceColon.of) (view_bound c.in-SliceColon.from) absent) c.over-in-SliceColon.result c.postfix-in-SliceColon.result false (omega (arith, high, c.bound_height.ensures, c.higher-in-SliceColon.ensures, c.over-in-SliceColon.ensures)) refl (c.postfix-in-SliceColon.ensures c.args.stack.now.limit (view_stack c.args.stack.now) c.budget-budget.ensures) c.requires.valid.low)

pub returns-in-AfterDot : goal.returns-in-AfterDot
returns-in-AfterDot c =
    let valid = rw c.in-AfterDot.is at c.requires.at in
    let high = valid.height in
    rw c.in-AfterDot.is (has_post c.args.stack.now.limit (view_stack c.args.stack.now) (attr (view_measured c.in-AfterDot.of) []) c.over-in-AfterDot.result c.postfix-in-AfterDot.result false (omega (arith, high, c.over-in-AfterDot.ensures)) refl (c.postfix-in-AfterDot.ensures c.args.stack.now.limit (view_stack c.args.stack.now) c.budget-budget.ensures) c.requires.valid.low)

pub returns-in-AfterNot : goal.returns-in-AfterNot
returns-in-AfterNot c =
    let valid = rw c.in-AfterNot.is at c.requires.at in
    let ls = view_links c.in-AfterNot.chain in
    rw c.in-AfterNot.is (has_measured c.args.stack.now.limit (view_stack c.args.stack.now) (compare (plain_expr c.in-AfterNot.chain.first.value) (snoc_link ls (Op NotIn) least_name)) c.over-in-AfterNot.result c.budget-budget.result.other false (omega (arith, valid, links_snoc ls (Op NotIn) least_name, c.higher-in-AfterNot.ensures, c.over-in-AfterNot.ensures)) refl c.budget-budget.ensures.other c.requires.valid.low)

pub returns-in-AfterIs : goal.returns-in-AfterIs
returns-in-AfterIs c =
    let valid = rw c.in-AfterIs.is at c.requires.at in
    let ls = view_links c.in-AfterIs.chain in
    rw c.in-AfterIs.is (has_measured c.args.stack.now.limit (view_stack c.args.stack.now) (compare (plain_expr c.in-AfterIs.chain.first.value) (snoc_link ls Is none)) c.over-in-AfterIs.result c.budget-budget.result.other false (omega (arith, valid, links_snoc ls Is none, c.higher-in-AfterIs.ensures, c.over-in-AfterIs.ensures)) refl c.budget-budget.ensures.other c.requires.valid.low)

pub returns-in-AfterIsNot : goal.returns-in-AfterIsNot
returns-in-AfterIsNot c =
    let valid = rw c.in-AfterIsNot.is at c.requires.at in
    let ls = view_links c.in-AfterIsNot.chain in
    rw c.in-AfterIsNot.is (has_measured c.args.stack.now.limit (view_stack c.args.stack.now) (compare (plain_expr c.in-AfterIsNot.chain.first.value) (snoc_link ls IsNot none)) c.over-in-AfterIsNot.result c.budget-budget.result.other false (omega (arith, valid, links_snoc ls IsNot none, c.higher-in-AfterIsNot.ensures, c.over-in-AfterIsNot.ensures)) refl c.budget-budget.ensures.other c.requires.valid.low)

pub returns-in-Linked : goal.returns-in-Linked
returns-in-Linked c =
    let valid = rw c.in-Linked.is at c.requires.at in
    rw c.in-Linked.is (has_measured c.args.stack.now.limit (view_stack c.args.stack.now) (compare (plain_expr c.in-Linked.chain.first.value) (view_links c.in-Linked.chain)) c.over-in-Linked.result c.budget-budget.result.other false (omega (arith, valid, c.over-in-Linked.ensures)) refl c.budget-budget.ensures.other c.requires.valid.low)
