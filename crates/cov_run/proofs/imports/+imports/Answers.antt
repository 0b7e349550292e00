use Rattle.std.proofs.Common.{◌++◌, refl}
use Rattle.py_syntax.specs.View.{plain_arms, plain_cases, plain_clauses, plain_opt_suite, plain_stmts, plain_suite}
use Rattle.py_meaning.specs.Loading.{imported, opt_imported, arms_imported, clauses_imported, cases_imported}
use Rattle.py_scope.proofs.Gathering.{named, at_end, goes_on}
use Rattle.cov_run.specs.Imports.{suite_imported}
use Rattle.cov_run.proofs.Walking.{if-parts, while-parts, for-parts, try-parts, stmts-turn, arms-turn, clauses-turn, cases-turn, no-stmts, no-arms, no-clauses, no-cases}
use Rattle.cov_run.proofs.imports.+imports.Goals as goal

pub add_imported-loop-s-preserved : goal.add_imported-loop-s-preserved
add_imported-loop-s-preserved t c = stmts-turn c.loop-s.names c.statement.new.names _ c.args.items.now c.loop-s.s-index c.s-item.result c.loop-s-test.true c.s-item.is c.in_ok-statement.ensures c.loop-s.invariant

pub add_imported-returns : goal.add_imported-returns
add_imported-returns t c = at_end named (λ xs. imported (plain_stmts xs)) no-stmts _ _ _ _ c.loop-s-test.false c.loop-s.invariant

pub in_arms-loop-arm-preserved : goal.in_arms-loop-arm-preserved
in_arms-loop-arm-preserved t c = arms-turn c.loop-arm.names c.in_suite.new.names _ c.args.items.now c.loop-arm.arm-index c.arm-item.result c.loop-arm-test.true c.arm-item.is c.in_ok-in_suite.ensures c.loop-arm.invariant

pub in_arms-returns : goal.in_arms-returns
in_arms-returns t c = at_end named (λ xs. arms_imported (plain_arms xs)) no-arms _ _ _ _ c.loop-arm-test.false c.loop-arm.invariant

pub in_clauses-loop-clause-preserved : goal.in_clauses-loop-clause-preserved
in_clauses-loop-clause-preserved t c = clauses-turn c.loop-clause.names c.in_suite.new.names _ c.args.items.now c.loop-clause.clause-index c.clause-item.result c.loop-clause-test.true c.clause-item.is c.in_ok-in_suite.ensures c.loop-clause.invariant

pub in_clauses-returns : goal.in_clauses-returns
in_clauses-returns t c = at_end named (λ xs. clauses_imported (plain_clauses xs)) no-clauses _ _ _ _ c.loop-clause-test.false c.loop-clause.invariant

pub in_cases-loop-case-preserved : goal.in_cases-loop-case-preserved
in_cases-loop-case-preserved t c = cases-turn c.loop-case.names c.in_suite.new.names _ c.args.items.now c.loop-case.case-index c.case-item.result c.loop-case-test.true c.case-item.is c.in_ok-in_suite.ensures c.loop-case.invariant

pub in_cases-returns : goal.in_cases-returns
in_cases-returns t c = at_end named (λ xs. cases_imported (plain_cases xs)) no-cases _ _ _ _ c.loop-case-test.false c.loop-case.invariant

pub statement-returns-in_ok-in_arms-in-If : goal.statement-returns-in_ok-in_arms-in-If
statement-returns-in_ok-in_arms-in-If t c =
    goes_on named c.in_optional.result c.args.names.now c.in_arms.new.names c.in_optional.new.names (arms_imported (plain_arms c.deref-in-If.result.now)) (opt_imported (plain_opt_suite c.in-If.orelse)) _ c.in_optional.ensures c.in_ok-in_arms-in-If.ensures
    (if-parts c.args.kind.now c.in-If.arms c.deref-in-If.result.now c.in-If.orelse c.in-If.is c.deref-in-If.ensures.value)

pub statement-returns-in_ok-in_suite-in-While : goal.statement-returns-in_ok-in_suite-in-While
statement-returns-in_ok-in_suite-in-While t c =
    goes_on named c.in_optional-in-While.result c.args.names.now c.in_suite.new.names c.in_optional-in-While.new.names (suite_imported (plain_suite c.in-While.body)) (opt_imported (plain_opt_suite c.in-While.orelse)) _ c.in_optional-in-While.ensures c.in_ok-in_suite-in-While.ensures
    (while-parts c.args.kind.now c.in-While.test c.in-While.body c.in-While.orelse c.in-While.is)

pub statement-returns-in_ok-in_suite-in-For : goal.statement-returns-in_ok-in_suite-in-For
statement-returns-in_ok-in_suite-in-For t c =
    goes_on named c.in_optional-in-For.result c.args.names.now c.in_suite-in-For.new.names c.in_optional-in-For.new.names (suite_imported (plain_suite c.in-For.body)) (opt_imported (plain_opt_suite c.in-For.orelse)) _ c.in_optional-in-For.ensures c.in_ok-in_suite-in-For.ensures
    (for-parts c.args.kind.now c.in-For.target c.in-For.over c.in-For.body c.in-For.orelse c.in-For.is)

pub statement-returns-in_ok-in_optional-in-Try : goal.statement-returns-in_ok-in_optional-in-Try
statement-returns-in_ok-in_optional-in-Try t c =
    let tried = suite_imported (plain_suite c.in-Try.body) in
    let handlers = clauses_imported (plain_clauses c.deref-in-Try.result.now) in
    let orelse = opt_imported (plain_opt_suite c.in-Try.orelse) in
    let finally = opt_imported (plain_opt_suite c.in-Try.finally) in
    goes_on named c.in_optional-in-Try-2.result c.args.names.now c.in_suite-in-Try.new.names c.in_optional-in-Try-2.new.names tried (handlers ++ (orelse ++ finally)) _
    (goes_on named c.in_optional-in-Try-2.result c.in_suite-in-Try.new.names c.in_clauses.new.names c.in_optional-in-Try-2.new.names handlers (orelse ++ finally) (handlers ++ (orelse ++ finally))
    (goes_on named c.in_optional-in-Try-2.result c.in_clauses.new.names c.in_optional-in-Try.new.names c.in_optional-in-Try-2.new.names orelse finally (orelse ++ finally) c.in_optional-in-Try-2.ensures c.in_ok-in_optional-in-Try.ensures refl)
    c.in_ok-in_clauses-in-Try.ensures refl)
    c.in_ok-in_suite-in-Try.ensures
    (try-parts c.args.kind.now c.in-Try.body c.in-Try.clauses c.deref-in-Try.result.now c.in-Try.orelse c.in-Try.finally c.in-Try.is c.deref-in-Try.ensures.value)
