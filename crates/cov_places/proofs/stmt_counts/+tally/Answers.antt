use Rattle.std.proofs.Common.{refl, ap}
use Rattle.std.specs.Option.{option_map}
use Rattle.py_syntax.specs.declared.stmt.Arm.{out-Arm}
use Rattle.py_syntax.specs.declared.stmt.Case.{out-Case}
use Rattle.py_syntax.specs.declared.stmt.Clause.{out-Clause}
use Rattle.py_syntax.specs.declared.stmt.Stmt.{out-Stmt}
use Rattle.py_syntax.specs.declared.stmt.Suite.{out-Suite}
use Rattle.py_syntax.specs.Tree.{suite, no_suite, has_suite, stmt, arm, clause, case, expr, assign, aug_assign, pass, break, continue, return, raise, assert, global, import, from, if', while, for, try, match}
use Rattle.py_syntax.specs.View.{plain_expr, plain_exprs, plain_pattern, plain_stmts, plain_suite, plain_opt_suite, plain_arms, plain_clauses, plain_cases}
use Rattle.py_changes.specs.Mutants.{at_mark, header_line, augmented_change, expr_mutants, exprs_mutants, maybe_mutants, stmts_mutants, kind_mutants, suite_mutants, opt_suite_mutants, arms_mutants, clauses_mutants, cases_mutants}
use Rattle.cov_places.specs.ItemRows.{put_stmt, put_arm, put_clause, put_case}
use Rattle.cov_places.proofs.KindForms.{stmts-step, arms-step, clauses-step, cases-step, expr-is, assign-is, aug_assign-is, pass-is, break-is, continue-is, return-is, raise-is, assert-is, global-is, import-is, from-is, if-is, while-is, for-is, try-is, match-is, suite-is}
use Rattle.cov_places.proofs.Counts.{count-none, count-one, count-two, count-three, count-four, counts-one, counts-two, count-next, count-end, at_a_mark, with_middle}
use Rattle.cov_places.proofs.KindCounts.{count-def}
use Rattle.cov_places.proofs.stmt_counts.+tally.Goals as goal

pub statement-returns-in-Expr : goal.statement-returns-in-Expr
statement-returns-in-Expr t c = λ l.
    let k = c.args.kind.now in
    count-one (kind_mutants l) (λ x. at_mark l (expr_mutants x)) expr _ _ _ _ (expr-is k _ c.in-Expr.is) refl (at_a_mark l c.args.so_far _ (expr_mutants (plain_expr c.in-Expr.e)) c.expr.ensures)

pub statement-returns-in-Assign : goal.statement-returns-in-Assign
statement-returns-in-Assign t c = λ l.
    let k = c.args.kind.now in
    count-two (kind_mutants l) (λ x. at_mark l (exprs_mutants x)) (λ x. at_mark l (expr_mutants x)) assign _ _ _ _ _ _ (assign-is k c.in-Assign.targets _ _ c.in-Assign.is c.deref.ensures.value) refl (at_a_mark l c.args.so_far _ (exprs_mutants (plain_exprs c.deref.result.now)) c.exprs.ensures) (at_a_mark l c.exprs.result _ (expr_mutants (plain_expr c.in-Assign.value)) c.expr-in-Assign.ensures)

pub statement-returns-in-AugAssign : goal.statement-returns-in-AugAssign
statement-returns-in-AugAssign t c = λ l.
    let k = c.args.kind.now in
    count-three (kind_mutants l) (λ x. at_mark l (expr_mutants x)) (λ o. at_mark l (augmented_change o)) (λ x. at_mark l (expr_mutants x)) aug_assign _ _ _ _ _ _ _ _ (aug_assign-is k _ _ _ c.in-AugAssign.is) refl (at_a_mark l c.args.so_far _ (expr_mutants (plain_expr c.in-AugAssign.place)) c.expr-in-AugAssign.ensures) c.one_more.ensures (at_a_mark l c.one_more.result _ (expr_mutants (plain_expr c.in-AugAssign.value)) c.expr-in-AugAssign-2.ensures)

pub statement-returns-in-Pass : goal.statement-returns-in-Pass
statement-returns-in-Pass t c = λ l.
    let k = c.args.kind.now in
    count-none (kind_mutants l) _ _ pass (pass-is k c.in-Pass.is) refl

pub statement-returns-in-Break : goal.statement-returns-in-Break
statement-returns-in-Break t c = λ l.
    let k = c.args.kind.now in
    count-none (kind_mutants l) _ _ break (break-is k c.in-Break.is) refl

pub statement-returns-in-Continue : goal.statement-returns-in-Continue
statement-returns-in-Continue t c = λ l.
    let k = c.args.kind.now in
    count-none (kind_mutants l) _ _ continue (continue-is k c.in-Continue.is) refl

pub statement-returns-in-Return : goal.statement-returns-in-Return
statement-returns-in-Return t c = λ l.
    let k = c.args.kind.now in
    count-one (kind_mutants l) (λ x. at_mark l (maybe_mutants x)) return _ _ _ _ (return-is k _ c.in-Return.is) refl (at_a_mark l c.args.so_far _ (maybe_mutants (option_map plain_expr c.in-Return.e)) c.maybe.ensures)

pub statement-returns-in-Raise : goal.statement-returns-in-Raise
statement-returns-in-Raise t c = λ l.
    let k = c.args.kind.now in
    count-one (kind_mutants l) (λ x. at_mark l (maybe_mutants x)) raise _ _ _ _ (raise-is k _ c.in-Raise.is) refl (at_a_mark l c.args.so_far _ (maybe_mutants (option_map plain_expr c.in-Raise.e)) c.maybe-in-Raise.ensures)

pub statement-returns-in-Assert : goal.statement-returns-in-Assert
statement-returns-in-Assert t c = λ l.
    let k = c.args.kind.now in
    count-two (kind_mutants l) (λ x. at_mark l (expr_mutants x)) (λ x. at_mark l (maybe_mutants x)) assert _ _ _ _ _ _ (assert-is k _ _ c.in-Assert.is) refl (at_a_mark l c.args.so_far _ (expr_mutants (plain_expr c.in-Assert.test)) c.expr-in-Assert.ensures) (at_a_mark l c.expr-in-Assert.result _ (maybe_mutants (option_map plain_expr c.in-Assert.why)) c.maybe-in-Assert.ensures)

pub statement-returns-in-Global : goal.statement-returns-in-Global
statement-returns-in-Global t c = λ l.
    let k = c.args.kind.now in
    count-none (kind_mutants l) _ _ (global _) (global-is k _ _ c.in-Global.is refl) refl

pub statement-returns-in-Import : goal.statement-returns-in-Import
statement-returns-in-Import t c = λ l.
    let k = c.args.kind.now in
    count-none (kind_mutants l) _ _ (import _) (import-is k _ _ c.in-Import.is refl) refl

pub statement-returns-in-From : goal.statement-returns-in-From
statement-returns-in-From t c = λ l.
    let k = c.args.kind.now in
    count-none (kind_mutants l) _ _ (from _ _) (from-is k _ _ _ c.in-From.is refl) refl

pub statement-returns-in-If : goal.statement-returns-in-If
statement-returns-in-If t c = λ l.
    let k = c.args.kind.now in
    count-two (kind_mutants l) arms_mutants opt_suite_mutants if' _ _ _ _ _ _ (if-is k c.in-If.arms _ _ c.in-If.is c.deref-in-If.ensures.value) refl c.branches.ensures c.opt.ensures

pub statement-returns-in-While : goal.statement-returns-in-While
statement-returns-in-While t c = λ l.
    let k = c.args.kind.now in
    count-three (kind_mutants l) (λ x. at_mark l (expr_mutants x)) suite_mutants opt_suite_mutants while _ _ _ _ _ _ _ _ (while-is k _ _ _ c.in-While.is) refl (at_a_mark l c.args.so_far _ (expr_mutants (plain_expr c.in-While.test)) c.expr-in-While.ensures) c.suite.ensures c.opt-in-While.ensures

pub statement-returns-in-For : goal.statement-returns-in-For
statement-returns-in-For t c = λ l.
    let k = c.args.kind.now in
    count-four (kind_mutants l) (λ x. at_mark l (expr_mutants x)) (λ x. at_mark l (expr_mutants x)) suite_mutants opt_suite_mutants for _ _ _ _ _ _ _ _ _ _ (for-is k _ _ _ _ c.in-For.is) refl (at_a_mark l c.args.so_far _ (expr_mutants (plain_expr c.in-For.target)) c.expr-in-For.ensures) (at_a_mark l c.expr-in-For.result _ (expr_mutants (plain_expr c.in-For.over)) c.expr-in-For-2.ensures) c.suite-in-For.ensures c.opt-in-For.ensures

pub statement-returns-in-Try : goal.statement-returns-in-Try
statement-returns-in-Try t c = λ l.
    let k = c.args.kind.now in
    count-four (kind_mutants l) suite_mutants clauses_mutants opt_suite_mutants opt_suite_mutants try _ _ _ _ _ _ _ _ _ _ (try-is k _ c.in-Try.clauses _ _ _ c.in-Try.is c.deref-in-Try.ensures.value) refl c.suite-in-Try.ensures c.handlers.ensures c.opt-in-Try.ensures c.opt-in-Try-2.ensures

pub statement-returns-in-Def : goal.statement-returns-in-Def
statement-returns-in-Def t c = λ l.
    let k = c.args.kind.now in
    count-def l _ _ _ k _ _ c.in-Def.defaults _ _ _ c.in-Def.is c.deref-in-Def.ensures.value (at_a_mark l c.args.so_far _ (exprs_mutants (plain_exprs c.deref-in-Def.result.now)) c.exprs-in-Def.ensures) c.suite-in-Def.ensures

pub statement-returns-in-Match : goal.statement-returns-in-Match
statement-returns-in-Match t c = λ l.
    let k = c.args.kind.now in
    count-two (kind_mutants l) (λ x. at_mark l (expr_mutants x)) cases_mutants (with_middle match _) _ _ _ _ _ _ (match-is k _ _ c.in-Match.list _ c.in-Match.is c.deref-in-Match.ensures.value) refl (at_a_mark l c.args.so_far _ (expr_mutants (plain_expr c.in-Match.subject)) c.expr-in-Match.ensures) c.cases.ensures

pub suite-returns : goal.suite-returns
suite-returns t c =
    let n = out-Suite c.args.s.now in count-one suite_mutants stmts_mutants (suite n.first n.last n.inline) _ _ _ _ (suite-is c.args.s.now _ c.deref.ensures.value) refl c.statements.ensures

pub opt-returns-in-None : goal.opt-returns-in-None
opt-returns-in-None t c =
    count-none opt_suite_mutants _ _ no_suite (ap plain_opt_suite c.in-None.is) refl

pub opt-returns-in-Some : goal.opt-returns-in-Some
opt-returns-in-Some t c =
    count-one opt_suite_mutants suite_mutants has_suite _ _ _ _ (ap plain_opt_suite c.in-Some.is) refl c.suite.ensures

pub statements-loop-s-preserved : goal.statements-loop-s-preserved
statements-loop-s-preserved t c =
    count-next stmts_mutants put_stmt plain_stmts stmts-step _ _ _ c.args.items.now c.loop-s.s-index c.s-item.result c.loop-s-test.true c.s-item.is
    (let n = out-Stmt c.s-item.result in counts-one stmts_mutants (kind_mutants n.first) (put_stmt c.s-item.result) (λ k r. stmt n.first n.last k n.end r) _ _ _ (λ r. refl) (λ r. refl) (c.statement-count.ensures n.first)) c.loop-s.invariant

pub statements-returns : goal.statements-returns
statements-returns t c =
    count-end stmts_mutants plain_stmts _ _ c.args.items.now c.loop-s.s-index refl c.loop-s-test.false c.loop-s.invariant

pub branches-loop-arm-preserved : goal.branches-loop-arm-preserved
branches-loop-arm-preserved t c =
    count-next arms_mutants put_arm plain_arms arms-step _ _ _ c.args.items.now c.loop-arm.arm-index c.arm-item.result c.loop-arm-test.true c.arm-item.is
    (let n = out-Arm c.arm-item.result in let l = header_line (plain_suite n.body) in counts-two arms_mutants (λ x. at_mark l (expr_mutants x)) suite_mutants (put_arm c.arm-item.result) arm _ _ _ _ _ (λ r. refl) (λ r. refl) (at_a_mark l c.loop-arm.count _ (expr_mutants (plain_expr n.test)) c.expr.ensures) c.suite-count.ensures) c.loop-arm.invariant

pub branches-returns : goal.branches-returns
branches-returns t c =
    count-end arms_mutants plain_arms _ _ c.args.items.now c.loop-arm.arm-index refl c.loop-arm-test.false c.loop-arm.invariant

pub handlers-loop-clause-preserved : goal.handlers-loop-clause-preserved
handlers-loop-clause-preserved t c =
    count-next clauses_mutants put_clause plain_clauses clauses-step _ _ _ c.args.items.now c.loop-clause.clause-index c.clause-item.result c.loop-clause-test.true c.clause-item.is
    (let n = out-Clause c.clause-item.result in let l = header_line (plain_suite n.body) in counts-two clauses_mutants (λ x. at_mark l (maybe_mutants x)) suite_mutants (put_clause c.clause-item.result) (λ e s r. clause e n.name s r) _ _ _ _ _ (λ r. refl) (λ r. refl) (at_a_mark l c.loop-clause.count _ (maybe_mutants (option_map plain_expr n.kind)) c.maybe.ensures) c.suite-count.ensures) c.loop-clause.invariant

pub handlers-returns : goal.handlers-returns
handlers-returns t c =
    count-end clauses_mutants plain_clauses _ _ c.args.items.now c.loop-clause.clause-index refl c.loop-clause-test.false c.loop-clause.invariant

pub cases-loop-case-preserved : goal.cases-loop-case-preserved
cases-loop-case-preserved t c =
    count-next cases_mutants put_case plain_cases cases-step _ _ _ c.args.items.now c.loop-case.case-index c.case-item.result c.loop-case-test.true c.case-item.is
    (let n = out-Case c.case-item.result in let l = header_line (plain_suite n.body) in counts-two cases_mutants (λ x. at_mark l (maybe_mutants x)) suite_mutants (put_case c.case-item.result) (λ e s r. case (plain_pattern n.pattern) e s r) _ _ _ _ _ (λ r. refl) (λ r. refl) (at_a_mark l c.loop-case.count _ (maybe_mutants (option_map plain_expr n.guard)) c.maybe.ensures) c.suite-count.ensures) c.loop-case.invariant

pub cases-returns : goal.cases-returns
cases-returns t c =
    count-end cases_mutants plain_cases _ _ c.args.items.now c.loop-case.case-index refl c.loop-case-test.false c.loop-case.invariant
