use Rattle.std.proofs.Common.{refl}
use Rattle.py_syntax.specs.Tree.{suite, pass, break, continue, if', while, for, try, def, match}
use Rattle.py_syntax.specs.View.{plain_stmts, plain_kind, plain_suite, plain_opt_suite, plain_arms, plain_clauses, plain_cases}
use Rattle.py_syntax.specs.declared.stmt.Suite.{out-Suite}
use Rattle.py_changes.specs.Mutants.{at_mark, expr_mutants, exprs_mutants, stmts_mutants, kind_mutants, suite_mutants, opt_suite_mutants, arms_mutants, clauses_mutants, cases_mutants}
use Rattle.cov_mutants_expr.proofs.RowLaws.{goes_on, at_end}
use Rattle.cov_mutants.proofs.Made.{made-none, made-one, made-two, made-three, made-four, made-as}
use Rattle.cov_places.proofs.KindForms.{stmts-step, arms-step, clauses-step, cases-step, expr-is, assign-is, aug_assign-is, pass-is, break-is, continue-is, return-is, raise-is, assert-is, global-is, import-is, from-is, if-is, while-is, for-is, try-is, def-is, match-is, suite-is}
use Rattle.cov_mutants.proofs.KindLaws.{pass-boxed, break-boxed, continue-boxed, a_suite, stmt-stepped, arm-stepped, clause-stepped, case-stepped}
use Rattle.cov_mutants.proofs.statements.+walk.Goals as goal

pub statement-returns-in-Expr : goal.statement-returns-in-Expr
statement-returns-in-Expr t c =
    let l = c.args.line in let k = c.args.kind.now in
    made-as (kind_mutants l) (λ b. plain_kind b.value) _ _ _ _ c.expression.result (expr-is k _ c.in-Expr.is)
    (c.expression.ensures)

pub statement-returns-in-Assign : goal.statement-returns-in-Assign
statement-returns-in-Assign t c =
    let l = c.args.line in let k = c.args.kind.now in
    made-as (kind_mutants l) (λ b. plain_kind b.value) _ _ _ _ c.assignment.result (assign-is k c.in-Assign.targets _ _ c.in-Assign.is c.deref.ensures.value)
    (c.assignment.ensures)

pub statement-returns-in-AugAssign : goal.statement-returns-in-AugAssign
statement-returns-in-AugAssign t c =
    let l = c.args.line in let k = c.args.kind.now in
    made-as (kind_mutants l) (λ b. plain_kind b.value) _ _ _ _ c.augmented.result (aug_assign-is k _ _ _ c.in-AugAssign.is)
    (c.augmented.ensures)

pub statement-returns-in-Pass : goal.statement-returns-in-Pass
statement-returns-in-Pass t c =
    let l = c.args.line in let k = c.args.kind.now in
    made-as (kind_mutants l) (λ b. plain_kind b.value) _ _ _ _ c.boxed.result (pass-is k c.in-Pass.is) (made-none (kind_mutants l) (λ b. plain_kind b.value) _ pass c.boxed.result refl (pass-boxed c.boxed.result c.boxed.ensures))

pub statement-returns-in-Break : goal.statement-returns-in-Break
statement-returns-in-Break t c =
    let l = c.args.line in let k = c.args.kind.now in
    made-as (kind_mutants l) (λ b. plain_kind b.value) _ _ _ _ c.boxed-in-Break.result (break-is k c.in-Break.is) (made-none (kind_mutants l) (λ b. plain_kind b.value) _ break c.boxed-in-Break.result refl (break-boxed c.boxed-in-Break.result c.boxed-in-Break.ensures))

pub statement-returns-in-Continue : goal.statement-returns-in-Continue
statement-returns-in-Continue t c =
    let l = c.args.line in let k = c.args.kind.now in
    made-as (kind_mutants l) (λ b. plain_kind b.value) _ _ _ _ c.boxed-in-Continue.result (continue-is k c.in-Continue.is) (made-none (kind_mutants l) (λ b. plain_kind b.value) _ continue c.boxed-in-Continue.result refl (continue-boxed c.boxed-in-Continue.result c.boxed-in-Continue.ensures))

pub statement-returns-in-Return : goal.statement-returns-in-Return
statement-returns-in-Return t c =
    let l = c.args.line in let k = c.args.kind.now in
    made-as (kind_mutants l) (λ b. plain_kind b.value) _ _ _ _ c.returning.result (return-is k _ c.in-Return.is)
    (c.returning.ensures)

pub statement-returns-in-Raise : goal.statement-returns-in-Raise
statement-returns-in-Raise t c =
    let l = c.args.line in let k = c.args.kind.now in
    made-as (kind_mutants l) (λ b. plain_kind b.value) _ _ _ _ c.raising.result (raise-is k _ c.in-Raise.is)
    (c.raising.ensures)

pub statement-returns-in-Assert : goal.statement-returns-in-Assert
statement-returns-in-Assert t c =
    let l = c.args.line in let k = c.args.kind.now in
    made-as (kind_mutants l) (λ b. plain_kind b.value) _ _ _ _ c.assertion.result (assert-is k _ _ c.in-Assert.is)
    (c.assertion.ensures)

pub statement-returns-in-Global : goal.statement-returns-in-Global
statement-returns-in-Global t c =
    let l = c.args.line in let k = c.args.kind.now in
    made-as (kind_mutants l) (λ b. plain_kind b.value) _ _ _ _ c.global_of.result (global-is k c.in-Global.names _ c.in-Global.is c.deref-in-Global.ensures.value) (made-none (kind_mutants l) (λ b. plain_kind b.value) _ _ c.global_of.result refl c.global_of.ensures)

pub statement-returns-in-Import : goal.statement-returns-in-Import
statement-returns-in-Import t c =
    let l = c.args.line in let k = c.args.kind.now in
    made-as (kind_mutants l) (λ b. plain_kind b.value) _ _ _ _ c.import_of.result (import-is k c.in-Import.names _ c.in-Import.is c.deref-in-Import.ensures.value) (made-none (kind_mutants l) (λ b. plain_kind b.value) _ _ c.import_of.result refl c.import_of.ensures)

pub statement-returns-in-From : goal.statement-returns-in-From
statement-returns-in-From t c =
    let l = c.args.line in let k = c.args.kind.now in
    made-as (kind_mutants l) (λ b. plain_kind b.value) _ _ _ _ c.from_of.result (from-is k _ c.in-From.names _ c.in-From.is c.deref-in-From.ensures.value) (made-none (kind_mutants l) (λ b. plain_kind b.value) _ _ c.from_of.result refl c.from_of.ensures)

pub statement-returns-in_ok-arms-in-If : goal.statement-returns-in_ok-arms-in-If
statement-returns-in_ok-arms-in-If t c =
    let l = c.args.line in let k = c.args.kind.now in
    made-as (kind_mutants l) (λ b. plain_kind b.value) _ _ _ _ c.if_of.result (if-is k c.in-If.arms _ _ c.in-If.is c.deref-in-If.ensures.value)
    (made-two (kind_mutants l) arms_mutants opt_suite_mutants (λ b. plain_kind b.value) plain_opt_suite if' _ _ _ _ _ _ c.opt.result c.if_of.result refl c.in_ok-arms-in-If.ensures c.opt.ensures c.if_of.ensures)

pub statement-returns-in_ok-body-in-While : goal.statement-returns-in_ok-body-in-While
statement-returns-in_ok-body-in-While t c =
    let l = c.args.line in let k = c.args.kind.now in
    made-as (kind_mutants l) (λ b. plain_kind b.value) _ _ _ _ c.while_of.result (while-is k _ _ _ c.in-While.is)
    (made-three (kind_mutants l) (λ x. at_mark l (expr_mutants x)) suite_mutants opt_suite_mutants (λ b. plain_kind b.value) plain_opt_suite while _ _ _ _ _ _ _ _ _ c.opt-in-While.result c.while_of.result refl c.in_ok-test-in-While.ensures c.in_ok-body-in-While.ensures c.opt-in-While.ensures c.while_of.ensures)

pub statement-returns-in_ok-body-in-For : goal.statement-returns-in_ok-body-in-For
statement-returns-in_ok-body-in-For t c =
    let l = c.args.line in let k = c.args.kind.now in
    made-as (kind_mutants l) (λ b. plain_kind b.value) _ _ _ _ c.for_of.result (for-is k _ _ _ _ c.in-For.is)
    (made-four (kind_mutants l) (λ x. at_mark l (expr_mutants x)) (λ x. at_mark l (expr_mutants x)) suite_mutants opt_suite_mutants (λ b. plain_kind b.value) plain_opt_suite for _ _ _ _ _ _ _ _ _ _ _ _ c.opt-in-For.result c.for_of.result refl c.in_ok-target-in-For.ensures c.in_ok-over-in-For.ensures c.in_ok-body-in-For.ensures c.opt-in-For.ensures c.for_of.ensures)

pub statement-returns-in_ok-orelse-in-Try : goal.statement-returns-in_ok-orelse-in-Try
statement-returns-in_ok-orelse-in-Try t c =
    let l = c.args.line in let k = c.args.kind.now in
    made-as (kind_mutants l) (λ b. plain_kind b.value) _ _ _ _ c.try_of.result (try-is k _ c.in-Try.clauses _ _ _ c.in-Try.is c.deref-in-Try.ensures.value)
    (made-four (kind_mutants l) suite_mutants clauses_mutants opt_suite_mutants opt_suite_mutants (λ b. plain_kind b.value) plain_opt_suite try _ _ _ _ _ _ _ _ _ _ _ _ c.opt-in-Try-2.result c.try_of.result refl c.in_ok-body-in-Try.ensures c.in_ok-clauses-in-Try.ensures c.in_ok-orelse-in-Try.ensures c.opt-in-Try-2.ensures c.try_of.ensures)

pub statement-returns-in_ok-defaults-in-Def : goal.statement-returns-in_ok-defaults-in-Def
statement-returns-in_ok-defaults-in-Def t c =
    let l = c.args.line in let k = c.args.kind.now in
    made-as (kind_mutants l) (λ b. plain_kind b.value) _ _ _ _ c.def_of.result (def-is k _ c.in-Def.params c.in-Def.defaults _ _ _ _ c.in-Def.is c.deref-in-Def-2.ensures.value c.deref-in-Def.ensures.value)
    (made-two (kind_mutants l) (λ x. at_mark l (exprs_mutants x)) suite_mutants (λ b. plain_kind b.value) plain_suite (λ es b. def c.in-Def.name c.deref-in-Def-2.result.now es c.in-Def.comma b) _ _ _ _ _ _ c.suite-in-Def.result c.def_of.result refl c.in_ok-defaults-in-Def.ensures c.suite-in-Def.ensures c.def_of.ensures)

pub statement-returns-in_ok-subject-in-Match : goal.statement-returns-in_ok-subject-in-Match
statement-returns-in_ok-subject-in-Match t c =
    let l = c.args.line in let k = c.args.kind.now in
    made-as (kind_mutants l) (λ b. plain_kind b.value) _ _ _ _ c.match_of.result (match-is k _ _ c.in-Match.list _ c.in-Match.is c.deref-in-Match.ensures.value)
    (made-two (kind_mutants l) (λ x. at_mark l (expr_mutants x)) cases_mutants (λ b. plain_kind b.value) (λ v. plain_cases v.items) (λ e cs. match e c.in-Match.header_last cs) _ _ _ _ _ _ c.cases.result c.match_of.result refl c.in_ok-subject-in-Match.ensures c.cases.ensures c.match_of.ensures)

pub suite-returns : goal.suite-returns
suite-returns t c =
    let n = out-Suite c.args.s.now in
    made-as suite_mutants plain_suite _ _ _ _ c.suite_of.result (suite-is c.args.s.now _ c.deref.ensures.value)
    (made-one suite_mutants stmts_mutants plain_suite (λ v. plain_stmts v.items) (suite n.first n.last n.inline) _ _ _ c.statements.result c.suite_of.result refl c.statements.ensures c.suite_of.ensures)

pub opt-returns-in_ok-suite-in-Some : goal.opt-returns-in_ok-suite-in-Some
opt-returns-in_ok-suite-in-Some t c =
    a_suite _ _ c.args.s.now _ _ c.in-Some.is c.in_ok-suite-in-Some.ensures

pub statements-loop-s-preserved : goal.statements-loop-s-preserved
statements-loop-s-preserved t c =
    goes_on plain_stmts stmts-step _ _ _ _ c.args.items.now c.loop-s.s-index c.s-item.result _ _ c.loop-s-test.true c.s-item.is
    (stmt-stepped c.statement.result _ _ c.s-item.result _ _ c.statement.ensures c.in_ok-add_stmt.ensures) c.loop-s.invariant

pub statements-returns : goal.statements-returns
statements-returns t c =
    at_end plain_stmts stmts-step refl _ _ c.args.items.now c.loop-s.s-index _ c.loop-s-test.false c.loop-s.invariant

pub branches-loop-arm-preserved : goal.branches-loop-arm-preserved
branches-loop-arm-preserved t c =
    goes_on plain_arms arms-step _ _ _ _ c.args.items.now c.loop-arm.arm-index c.arm-item.result _ _ c.loop-arm-test.true c.arm-item.is
    (arm-stepped c.suite.result _ _ _ c.arm-item.result _ _ _ c.in_ok-test.ensures c.suite.ensures c.in_ok-add_arm.ensures) c.loop-arm.invariant

pub branches-returns : goal.branches-returns
branches-returns t c =
    at_end plain_arms arms-step refl _ _ c.args.items.now c.loop-arm.arm-index _ c.loop-arm-test.false c.loop-arm.invariant

pub handlers-loop-clause-preserved : goal.handlers-loop-clause-preserved
handlers-loop-clause-preserved t c =
    goes_on plain_clauses clauses-step _ _ _ _ c.args.items.now c.loop-clause.clause-index c.clause-item.result _ _ c.loop-clause-test.true c.clause-item.is
    (clause-stepped c.suite.result _ _ _ c.clause-item.result _ _ _ c.in_ok-kind.ensures c.suite.ensures c.in_ok-add_clause.ensures) c.loop-clause.invariant

pub handlers-returns : goal.handlers-returns
handlers-returns t c =
    at_end plain_clauses clauses-step refl _ _ c.args.items.now c.loop-clause.clause-index _ c.loop-clause-test.false c.loop-clause.invariant

pub cases-loop-case-preserved : goal.cases-loop-case-preserved
cases-loop-case-preserved t c =
    goes_on plain_cases cases-step _ _ _ _ c.args.items.now c.loop-case.case-index c.case-item.result _ _ c.loop-case-test.true c.case-item.is
    (case-stepped c.suite.result _ _ _ c.case-item.result _ _ _ _ c.in_ok-matched.ensures c.in_ok-guard.ensures c.suite.ensures c.in_ok-add_case.ensures) c.loop-case.invariant

pub cases-returns : goal.cases-returns
cases-returns t c =
    at_end plain_cases cases-step refl _ _ c.args.items.now c.loop-case.case-index _ c.loop-case-test.false c.loop-case.invariant
