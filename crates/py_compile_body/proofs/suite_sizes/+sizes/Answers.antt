use Rattle.std.proofs.Common.{◌+◌, refl, sym, ap, ◌∙◌, arith}
use Rattle.py_syntax.specs.View.{plain_expr, plain_stmts, plain_suite, plain_opt_suite, plain_arms, plain_clauses, plain_cases}
use Rattle.py_compile_expr.proofs.Turns.{the_number, none_counted}
use Rattle.py_compile.specs.Statements.{kind_size, stmts_size, opt_size, arms_size, clauses_size, cases_size}
use Rattle.py_compile_body.proofs.Ends.{one_counted}
use Rattle.py_compile_body.proofs.Forms.{while_size, for_size, try_size}
use Rattle.py_compile_body.proofs.KindViews.{expr_shown, aug_assign_shown, pass_shown, break_shown, continue_shown, return_shown, raise_shown, global_shown, import_shown, from_shown, def_shown, assign_shown, assert_shown, if_shown, while_shown, for_shown, try_shown, match_shown, body_is, opt_some_size, handlers_size-is, handlers_size-none}
use Rattle.py_compile_body.proofs.Rows.{one_each_side, one_in_front, four_in_front}
use Rattle.py_compile_body.proofs.SuiteTurns.{stmts_counted, arms_counted, clauses_counted, cases_counted}
use Rattle.py_compile_body.proofs.suite_sizes.+sizes.Goals as goal

pub stmts_size-loop-s-preserved : goal.stmts_size-loop-s-preserved
stmts_size-loop-s-preserved t c =
    let one = c.in_ok-size.ensures _ c.kind_size.ensures in
    stmts_counted c.args.handled c.args.items.now c.loop-s.s-index c.s-item.result c.loop-s.size c.in_ok-size.size _ c.loop-s-test.true c.s-item.is (omega (arith, one)) c.loop-s.invariant

pub stmts_size-returns : goal.stmts_size-returns
stmts_size-returns t c = none_counted (λ xs. stmts_size c.args.handled (plain_stmts xs)) refl _ _ _ _ c.loop-s-test.false c.loop-s.invariant

pub arms_size-loop-arm-preserved : goal.arms_size-loop-arm-preserved
arms_size-loop-arm-preserved t c =
    let one = c.in_ok-size.ensures _ (c.both-one.ensures _ _ c.expr_size.ensures c.suite_size.ensures) in
    arms_counted c.args.handled c.args.items.now c.loop-arm.arm-index c.arm-item.result c.loop-arm.size c.in_ok-size.size _ c.loop-arm-test.true c.arm-item.is (omega (arith, one)) c.loop-arm.invariant

pub arms_size-returns : goal.arms_size-returns
arms_size-returns t c = none_counted (λ xs. arms_size c.args.handled (plain_arms xs)) refl _ _ _ _ c.loop-arm-test.false c.loop-arm.invariant

pub clauses_size-loop-clause-preserved : goal.clauses_size-loop-clause-preserved
clauses_size-loop-clause-preserved t c =
    let one = c.in_ok-size.ensures _ (c.both-one.ensures _ _ c.caught_size.ensures c.suite_size.ensures) in
    let two = c.named_size-rest.ensures in
    clauses_counted c.args.handled c.args.items.now c.loop-clause.clause-index c.clause-item.result c.loop-clause.size c.in_ok-size.size _ c.loop-clause-test.true c.clause-item.is (omega (arith, one, two)) c.loop-clause.invariant

pub clauses_size-returns : goal.clauses_size-returns
clauses_size-returns t c = one_counted (λ xs. clauses_size c.args.handled (plain_clauses xs)) refl _ _ _ _ c.loop-clause-test.false c.loop-clause.invariant

pub cases_size-loop-case-preserved : goal.cases_size-loop-case-preserved
cases_size-loop-case-preserved t c =
    let one = c.in_ok-size.ensures _ (c.both-one.ensures _ _ c.case_head_size-head.ensures c.suite_size.ensures) in
    cases_counted c.args.handled c.args.items.now c.loop-case.case-index c.case-item.result c.loop-case.size c.in_ok-size.size _ c.loop-case-test.true c.case-item.is (omega (arith, one)) c.loop-case.invariant

pub cases_size-returns : goal.cases_size-returns
cases_size-returns t c = one_counted (λ xs. cases_size c.args.handled (plain_cases xs)) refl _ _ _ _ c.loop-case-test.false c.loop-case.invariant

pub handlers_size-returns-then-is_empty : goal.handlers_size-returns-then-is_empty
handlers_size-returns-then-is_empty t c = sym (handlers_size-none c.args.handled c.args.items.now (sym c.is_empty.ensures ∙ c.if-is_empty.true))

pub handlers_size-returns : goal.handlers_size-returns
handlers_size-returns t c =
    let one = c.in_ok-clauses_size.ensures in
    let k = handlers_size-is c.args.handled c.args.items.now (sym c.is_empty.ensures ∙ c.if-is_empty.false) in
    the_number c.sum.result _ _ c.sum.ensures (omega (arith, one, k))

pub suite_size-returns : goal.suite_size-returns
suite_size-returns t c =
    the_number c.stmts_size.result _ _ c.stmts_size.ensures (ap (λ xs. stmts_size c.args.handled (plain_stmts xs)) c.deref.ensures.value ∙ ap (stmts_size c.args.handled) (sym (body_is c.args.s.now)))

pub opt_size-returns-in-Some : goal.opt_size-returns-in-Some
opt_size-returns-in-Some t c =
    the_number c.suite_size.result _ _ c.suite_size.ensures (sym (ap (λ o. opt_size c.args.handled (plain_opt_suite o)) c.in-Some.is ∙ opt_some_size c.args.handled (plain_suite c.in-Some.s)))

-- ---- which statement it is

pub kind_size-returns-in_ok-expr_size-in-Expr : goal.kind_size-returns-in_ok-expr_size-in-Expr
kind_size-returns-in_ok-expr_size-in-Expr t c =
    the_number c.sum.result _ _ c.sum.ensures (ap (λ n. n + 2) c.in_ok-expr_size-in-Expr.ensures ∙ one_each_side _ ∙ sym (ap (kind_size c.args.handled) (expr_shown c.args.kind.now c.in-Expr.e c.in-Expr.is)))

pub kind_size-returns-in_ok-augment_size-in-AugAssign : goal.kind_size-returns-in_ok-augment_size-in-AugAssign
kind_size-returns-in_ok-augment_size-in-AugAssign t c =
    the_number c.sum-in-AugAssign.result _ _ c.sum-in-AugAssign.ensures (ap (λ n. n + 1) c.in_ok-augment_size-in-AugAssign.ensures ∙ one_in_front _ ∙ sym (ap (kind_size c.args.handled) (aug_assign_shown c.args.kind.now c.in-AugAssign.place c.in-AugAssign.op c.in-AugAssign.value c.in-AugAssign.is)))

pub kind_size-returns-in_ok-option_size-in-Return : goal.kind_size-returns-in_ok-option_size-in-Return
kind_size-returns-in_ok-option_size-in-Return t c =
    the_number c.sum-in-Return.result _ _ c.sum-in-Return.ensures (ap (λ n. n + 2) c.in_ok-option_size-in-Return.ensures ∙ one_each_side _ ∙ sym (ap (kind_size c.args.handled) (return_shown c.args.kind.now c.in-Return.e c.in-Return.is)))

pub kind_size-returns-in_ok-raise_size-in-Raise : goal.kind_size-returns-in_ok-raise_size-in-Raise
kind_size-returns-in_ok-raise_size-in-Raise t c =
    the_number c.sum-in-Raise.result _ _ c.sum-in-Raise.ensures (ap (λ n. n + 1) c.in_ok-raise_size-in-Raise.ensures ∙ one_in_front _ ∙ sym (ap (kind_size c.args.handled) (raise_shown c.args.kind.now c.in-Raise.e c.in-Raise.is)))

pub kind_size-returns-in_ok-import_size-in-Import : goal.kind_size-returns-in_ok-import_size-in-Import
kind_size-returns-in_ok-import_size-in-Import t c =
    the_number c.sum-in-Import.result _ _ c.sum-in-Import.ensures (ap (λ n. n + 1) c.in_ok-import_size-in-Import.ensures ∙ one_in_front _ ∙ sym (ap (kind_size c.args.handled) (import_shown c.args.kind.now c.in-Import.names c.deref-in-Import.result.now c.in-Import.is c.deref-in-Import.ensures.value)))

pub kind_size-returns-in_ok-take_size-in-From : goal.kind_size-returns-in_ok-take_size-in-From
kind_size-returns-in_ok-take_size-in-From t c =
    the_number c.sum-in-From.result _ _ c.sum-in-From.ensures (ap (λ n. n + 4) c.in_ok-take_size-in-From.ensures ∙ four_in_front _ ∙ sym (ap (kind_size c.args.handled) (from_shown c.args.kind.now c.in-From.field-0 c.in-From.names c.deref-in-From.result.now c.in-From.is c.deref-in-From.ensures.value)))

pub kind_size-returns-in_ok-function_size-in-Def : goal.kind_size-returns-in_ok-function_size-in-Def
kind_size-returns-in_ok-function_size-in-Def t c =
    the_number c.sum-in-Def.result _ _ c.sum-in-Def.ensures (ap (λ n. n + 2) c.in_ok-function_size-in-Def.ensures ∙ one_each_side _ ∙ sym (ap (kind_size c.args.handled) (def_shown c.args.kind.now c.in-Def.name c.in-Def.params c.in-Def.defaults c.in-Def.comma c.in-Def.body c.deref-in-Def.result.now c.in-Def.is c.deref-in-Def.ensures.value)))

pub kind_size-returns-in-Pass : goal.kind_size-returns-in-Pass
kind_size-returns-in-Pass t c = sym (ap (kind_size c.args.handled) (pass_shown c.args.kind.now c.in-Pass.is))

pub kind_size-returns-in-Break : goal.kind_size-returns-in-Break
kind_size-returns-in-Break t c = sym (ap (kind_size c.args.handled) (break_shown c.args.kind.now c.in-Break.is))

pub kind_size-returns-in-Continue : goal.kind_size-returns-in-Continue
kind_size-returns-in-Continue t c = sym (ap (kind_size c.args.handled) (continue_shown c.args.kind.now c.in-Continue.is))

pub kind_size-returns-in-Global : goal.kind_size-returns-in-Global
kind_size-returns-in-Global t c = sym (ap (kind_size c.args.handled) (global_shown c.args.kind.now c.in-Global.field-0 c.in-Global.is))

pub kind_size-returns-in-Assign : goal.kind_size-returns-in-Assign
kind_size-returns-in-Assign t c =
    let k = ap (kind_size c.args.handled) (assign_shown c.args.kind.now c.in-Assign.targets c.in-Assign.value c.deref.result.now c.in-Assign.is c.deref.ensures.value) in
    the_number c.both.result _ _ (c.both.ensures _ _ c.expr_size-in-Assign.ensures c.all_size.ensures) (omega (arith, k))

pub kind_size-returns-in-Assert : goal.kind_size-returns-in-Assert
kind_size-returns-in-Assert t c =
    let k = ap (kind_size c.args.handled) (assert_shown c.args.kind.now c.in-Assert.test c.in-Assert.why c.in-Assert.is) in
    the_number c.both-in-Assert.result _ _ (c.both-in-Assert.ensures _ _ c.expr_size-in-Assert.ensures c.assert_size.ensures) (omega (arith, k))

pub kind_size-returns-in-If : goal.kind_size-returns-in-If
kind_size-returns-in-If t c =
    let k = ap (kind_size c.args.handled) (if_shown c.args.kind.now c.in-If.arms c.in-If.orelse c.deref-in-If.result.now c.in-If.is c.deref-in-If.ensures.value) in
    the_number c.both-in-If.result _ _ (c.both-in-If.ensures _ _ c.arms_size.ensures c.opt_size.ensures) (omega (arith, k))

pub kind_size-returns-in-While : goal.kind_size-returns-in-While
kind_size-returns-in-While t c =
    let k = ap (kind_size c.args.handled) (while_shown c.args.kind.now c.in-While.test c.in-While.body c.in-While.orelse c.in-While.is)
    ∙ while_size c.args.handled (plain_expr c.in-While.test) (plain_suite c.in-While.body) (plain_opt_suite c.in-While.orelse) in
    let suites = c.both-suites.ensures _ _ c.suite_size.ensures c.opt_size-in-While.ensures in
    the_number c.both-in-While.result _ _ (c.both-in-While.ensures _ _ c.expr_size-in-While.ensures suites) (omega (arith, k))

pub kind_size-returns-in-For : goal.kind_size-returns-in-For
kind_size-returns-in-For t c =
    let k = ap (kind_size c.args.handled) (for_shown c.args.kind.now c.in-For.target c.in-For.over c.in-For.body c.in-For.orelse c.in-For.is)
    ∙ for_size c.args.handled (plain_expr c.in-For.target) (plain_expr c.in-For.over) (plain_suite c.in-For.body) (plain_opt_suite c.in-For.orelse) in
    let head = c.both-head.ensures _ _ c.expr_size-in-For.ensures c.target_size.ensures in
    let suites = c.both-suites-in-For.ensures _ _ c.suite_size-in-For.ensures c.opt_size-in-For.ensures in
    the_number c.both-in-For.result _ _ (c.both-in-For.ensures _ _ head suites) (omega (arith, k))

pub kind_size-returns-in-Try : goal.kind_size-returns-in-Try
kind_size-returns-in-Try t c =
    let k = ap (kind_size c.args.handled) (try_shown c.args.kind.now c.in-Try.body c.in-Try.clauses c.in-Try.orelse c.in-Try.finally c.deref-in-Try.result.now c.in-Try.is c.deref-in-Try.ensures.value)
    ∙ try_size c.args.handled (plain_suite c.in-Try.body) (plain_clauses c.deref-in-Try.result.now) (plain_opt_suite c.in-Try.orelse) (plain_opt_suite c.in-Try.finally) in
    let tried = c.both-tried.ensures _ _ c.suite_size-in-Try.ensures c.opt_size-in-Try.ensures in
    let caught = c.both-caught.ensures _ _ tried c.handlers_size.ensures in
    the_number c.both-in-Try.result _ _ (c.both-in-Try.ensures _ _ caught c.finally_size.ensures) (omega (arith, k))

pub kind_size-returns-in-Match : goal.kind_size-returns-in-Match
kind_size-returns-in-Match t c =
    let k = ap (kind_size c.args.handled) (match_shown c.args.kind.now c.in-Match.subject c.in-Match.header_last c.in-Match.cases c.deref-in-Match.result.now c.in-Match.is c.deref-in-Match.ensures.value) in
    the_number c.both-in-Match.result _ _ (c.both-in-Match.ensures _ _ c.expr_size-in-Match.ensures c.cases_size.ensures) (omega (arith, k))
