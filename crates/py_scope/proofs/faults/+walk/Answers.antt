use Rattle.std.proofs.lemmas.Grind.{common_steps}
use Rattle.std.proofs.Common.{arith, ◌-◌, refl, sym, ap, ◌∙◌}
use Rattle.py_syntax.specs.View.{plain_pattern, plain_kind, plain_suite, plain_stmts, plain_arms, plain_clauses, plain_cases}
use Rattle.py_scope.specs.Faults.{◌&◌, blame, blame_case, kind_findings, suite_findings, function_findings, findings, arms_findings, clauses_findings, cases_findings}
use Rattle.py_syntax.specs.declared.stmt.Arm.{out-Arm}
use Rattle.py_syntax.specs.declared.stmt.Case.{out-Case}
use Rattle.py_syntax.specs.declared.stmt.Stmt.{out-Stmt}
use Rattle.py_syntax.specs.declared.stmt.Suite.{out-Suite}
use Rattle.py_scope.specs.declared.error.ScopeError.TheVariants.{NestedFunction, TwiceNamed}
use Rattle.py_scope.specs.Patterns.{has_repeats}
use Rattle.py_scope.proofs.Found.{plain-is, named-is, jump-is, return-is, if-is, while-is, for-is, def-is, match-is, suite-is, function-is, opt-is, stmts-step, arms-step}
use Rattle.py_scope.proofs.Gathering.{found, at_end, goes_on, three, renamed, silent, stopped, a_turn}
use Rattle.py_scope.proofs.Turns.{clause_turn, case_turn, tried}
use Rattle.py_scope.proofs.faults.+walk.Goals as goal

pub statements-returns : goal.statements-returns
statements-returns t c = at_end found (λ xs. findings c.args.at (plain_stmts xs)) refl _ _ _ _ c.loop-s-test.false c.loop-s.invariant

pub branches-returns : goal.branches-returns
branches-returns t c = at_end found (λ xs. arms_findings c.args.at (plain_arms xs)) refl _ _ _ _ c.loop-arm-test.false c.loop-arm.invariant

pub handlers-returns : goal.handlers-returns
handlers-returns t c = at_end found (λ xs. clauses_findings c.args.at (plain_clauses xs)) refl _ _ _ _ c.loop-clause-test.false c.loop-clause.invariant.found

pub cases-returns : goal.cases-returns
cases-returns t c = at_end found (λ xs. cases_findings c.args.at (plain_cases xs)) refl _ _ _ _ c.loop-case-test.false c.loop-case.invariant.found

pub handlers-loop-clause-preserved : goal.handlers-loop-clause-preserved
handlers-loop-clause-preserved t c = record {
  left = omega (arith, c.loop-clause.invariant.left, c.loop-clause-test.true);
  found = clause_turn c.args.at c.loop-clause.report c.one_clause.new.report (c.args.report.now & clauses_findings c.args.at (plain_clauses c.args.items.now)) c.args.items.now c.loop-clause.clause-index (c.loop-clause.later - 1) c.clause-item.result c.loop-clause-test.true c.clause-item.is
      (omega (arith, c.loop-clause.invariant.left, c.loop-clause-test.true)) c.in_ok-one_clause.ensures c.loop-clause.invariant.found;
}

pub cases-loop-case-preserved : goal.cases-loop-case-preserved
cases-loop-case-preserved t c = record {
  left = omega (arith, c.loop-case.invariant.left, c.loop-case-test.true);
  found = case_turn c.args.at c.loop-case.report c.one_case.new.report (c.args.report.now & cases_findings c.args.at (plain_cases c.args.items.now)) c.args.items.now c.loop-case.case-index (c.loop-case.later - 1) c.case-item.result c.loop-case-test.true c.case-item.is
      (omega (arith, c.loop-case.invariant.left, c.loop-case-test.true)) c.in_ok-one_case.ensures c.loop-case.invariant.found;
}

pub statement-returns-in_ok-opt-in-Try : goal.statement-returns-in_ok-opt-in-Try
statement-returns-in_ok-opt-in-Try t c =
    tried c.opt-in-Try-2.result c.args.at c.in_finally.result c.args.line c.args.kind.now c.in-Try.body c.in-Try.clauses c.deref-in-Try.result.now c.in-Try.orelse c.in-Try.finally
    c.args.report.now c.suite-in-Try.new.report c.handlers.new.report c.opt-in-Try.new.report c.opt-in-Try-2.new.report
    c.in-Try.is c.deref-in-Try.ensures.value c.in_finally.ensures c.in_ok-suite-in-Try.ensures c.in_ok-handlers-in-Try.ensures c.in_ok-opt-in-Try.ensures c.opt-in-Try-2.ensures

-- ---- a statement by its form

pub statement-returns-in-Expr : goal.statement-returns-in-Expr
statement-returns-in-Expr t c =
    silent found _ _ (plain-is c.args.at c.args.line c.args.kind.now c.in-Expr.is)

pub statement-returns-in-Expr-2 : goal.statement-returns-in-Expr-2
statement-returns-in-Expr-2 t c =
    silent found _ _ (plain-is c.args.at c.args.line c.args.kind.now c.in-Expr.is)

pub statement-returns-in-Expr-3 : goal.statement-returns-in-Expr-3
statement-returns-in-Expr-3 t c =
    silent found _ _ (plain-is c.args.at c.args.line c.args.kind.now c.in-Expr.is)

pub statement-returns-in-Expr-4 : goal.statement-returns-in-Expr-4
statement-returns-in-Expr-4 t c =
    silent found _ _ (plain-is c.args.at c.args.line c.args.kind.now c.in-Expr.is)

pub statement-returns-in-Assert : goal.statement-returns-in-Assert
statement-returns-in-Assert t c =
    silent found _ _ (named-is c.args.at c.args.line c.args.kind.now c.in-Assert.is)

pub statement-returns-in-Assert-2 : goal.statement-returns-in-Assert-2
statement-returns-in-Assert-2 t c =
    silent found _ _ (named-is c.args.at c.args.line c.args.kind.now c.in-Assert.is)

pub statement-returns-in-Assert-3 : goal.statement-returns-in-Assert-3
statement-returns-in-Assert-3 t c =
    silent found _ _ (named-is c.args.at c.args.line c.args.kind.now c.in-Assert.is)

pub statement-returns-in-Assert-4 : goal.statement-returns-in-Assert-4
statement-returns-in-Assert-4 t c =
    silent found _ _ (named-is c.args.at c.args.line c.args.kind.now c.in-Assert.is)

pub statement-returns-in-Break : goal.statement-returns-in-Break
statement-returns-in-Break t c =
    renamed found c.blame-in-Break.result _ _ _ _ (jump-is c.args.at c.args.line c.args.kind.now c.in-Break.is) c.blame-in-Break.ensures

pub statement-returns-in-Return : goal.statement-returns-in-Return
statement-returns-in-Return t c =
    renamed found c.blame.result _ _ _ _ (return-is c.args.at c.args.line c.args.kind.now _ c.in-Return.is) c.blame.ensures

pub statement-returns-in_ok-branches-in-If : goal.statement-returns-in_ok-branches-in-If
statement-returns-in_ok-branches-in-If t c =
    goes_on found c.opt.result _ _ _ _ _ _ c.opt.ensures c.in_ok-branches-in-If.ensures (if-is c.args.at c.args.line c.args.kind.now c.in-If.arms c.in-If.orelse _ c.in-If.is c.deref.ensures.value)

pub statement-returns-in_ok-suite-in-While : goal.statement-returns-in_ok-suite-in-While
statement-returns-in_ok-suite-in-While t c =
    goes_on found c.opt-in-While.result _ _ _ _ _ _ c.opt-in-While.ensures c.in_ok-suite-in-While.ensures (while-is c.args.at c.args.line c.args.kind.now c.in-While.test c.in-While.body c.in-While.orelse _ c.in-While.is c.in_loop.ensures)

pub statement-returns-in_ok-suite-in-For : goal.statement-returns-in_ok-suite-in-For
statement-returns-in_ok-suite-in-For t c =
    goes_on found c.opt-in-For.result _ _ _ _ _ _ c.opt-in-For.ensures c.in_ok-suite-in-For.ensures (for-is c.args.at c.args.line c.args.kind.now c.in-For.target c.in-For.over c.in-For.body c.in-For.orelse _ c.in-For.is c.in_loop-in-For.ensures)

pub statement-returns-in-Def : goal.statement-returns-in-Def
statement-returns-in-Def t c =
    renamed found c.definition.result _ _ _ _ (def-is c.args.at c.args.line c.args.kind.now c.in-Def.name c.in-Def.params c.in-Def.defaults c.in-Def.comma c.in-Def.body _ c.in-Def.is c.deref-in-Def.ensures.value) c.definition.ensures

pub statement-returns-in-Match : goal.statement-returns-in-Match
statement-returns-in-Match t c =
    renamed found c.cases.result _ _ _ _ (match-is c.args.at c.args.line c.args.kind.now c.in-Match.subject c.in-Match.header_last c.in-Match.list _ c.in-Match.is c.deref-in-Match.ensures.value) c.cases.ensures

pub opt-returns-in-None : goal.opt-returns-in-None
opt-returns-in-None t c =
    silent found _ _ (opt-is c.args.at _ _ c.in-None.is)

pub opt-returns-in-Some : goal.opt-returns-in-Some
opt-returns-in-Some t c =
    renamed found c.suite.result _ _ _ _ (opt-is c.args.at _ _ c.in-Some.is) c.suite.ensures

pub suite-returns : goal.suite-returns
suite-returns t c =
    renamed found c.statements.result _ _ _ _ (suite-is c.args.at c.args.s.now _ c.deref.ensures.value) c.statements.ensures

pub function-returns : goal.function-returns
function-returns t c =
    goes_on found c.statements.result _ _ _ _ _ _ c.statements.ensures c.in_ok-function.ensures (function-is c.args.params.now c.args.body.now _ _ _ c.deref.ensures.value c.deref-2.ensures.value c.of_function.ensures)

pub definition-returns : goal.definition-returns
definition-returns t c =
    three found c.function.result c.args.report.now c.blame.new.self c.blame-2.new.self c.function.new.report (blame c.args.at.function (NestedFunction c.args.line)) (blame (has_repeats c.args.params.now) (TwiceNamed c.args.line)) (function_findings c.args.params.now (plain_suite c.args.body.now)) _
    c.in_ok-blame.ensures (c.in_ok-blame-2.ensures ∙ ap (λ b. c.blame.new.self & blame b (TwiceNamed c.args.line)) c.in_ok-repeated.ensures) c.function.ensures refl

pub one_case-returns : goal.one_case-returns
one_case-returns t c =
    goes_on found c.suite.result _ _ _ _ _ _ c.suite.ensures c.in_ok-header.ensures
    (ap (λ g. blame_case (out-Suite (out-Case c.args.case.now).body).first (plain_pattern (out-Case c.args.case.now).pattern) g c.args.follows & suite_findings c.args.at (plain_suite (out-Case c.args.case.now).body)) (sym c.is_some.ensures))

-- ---- memory that doesn't suffice

pub statement-returns-in_err-branches-in-If : goal.statement-returns-in_err-branches-in-If
statement-returns-in_err-branches-in-If t c =
    stopped _ c.from_residual.result c.from_residual.ensures.0

pub statement-returns-in_err-suite-in-While : goal.statement-returns-in_err-suite-in-While
statement-returns-in_err-suite-in-While t c =
    stopped _ c.from_residual-in_err-suite-in-While.result c.from_residual-in_err-suite-in-While.ensures.0

pub statement-returns-in_err-suite-in-For : goal.statement-returns-in_err-suite-in-For
statement-returns-in_err-suite-in-For t c =
    stopped _ c.from_residual-in_err-suite-in-For.result c.from_residual-in_err-suite-in-For.ensures.0

pub statement-returns-in_err-suite-in-Try : goal.statement-returns-in_err-suite-in-Try
statement-returns-in_err-suite-in-Try t c =
    stopped _ c.from_residual-in_err-suite-in-Try.result c.from_residual-in_err-suite-in-Try.ensures.0

pub statement-returns-in_err-handlers-in-Try : goal.statement-returns-in_err-handlers-in-Try
statement-returns-in_err-handlers-in-Try t c =
    stopped _ c.from_residual-in_err-handlers-in-Try.result c.from_residual-in_err-handlers-in-Try.ensures.0

pub statement-returns-in_err-opt-in-Try : goal.statement-returns-in_err-opt-in-Try
statement-returns-in_err-opt-in-Try t c =
    stopped _ c.from_residual-in_err-opt-in-Try.result c.from_residual-in_err-opt-in-Try.ensures.0

pub statements-returns-in_err-statement : goal.statements-returns-in_err-statement
statements-returns-in_err-statement t c =
    stopped _ c.from_residual.result c.from_residual.ensures.0

pub branches-returns-in_err-suite : goal.branches-returns-in_err-suite
branches-returns-in_err-suite t c =
    stopped _ c.from_residual.result c.from_residual.ensures.0

pub cases-returns-in_err-one_case : goal.cases-returns-in_err-one_case
cases-returns-in_err-one_case t c =
    stopped _ c.from_residual.result c.from_residual.ensures.0

pub handlers-returns-in_err-one_clause : goal.handlers-returns-in_err-one_clause
handlers-returns-in_err-one_clause t c =
    stopped _ c.from_residual.result c.from_residual.ensures.0

pub definition-returns-in_err-blame : goal.definition-returns-in_err-blame
definition-returns-in_err-blame t c =
    stopped _ c.from_residual.result c.from_residual.ensures.0

pub definition-returns-in_err-repeated : goal.definition-returns-in_err-repeated
definition-returns-in_err-repeated t c =
    stopped _ c.from_residual-in_err-repeated.result c.from_residual-in_err-repeated.ensures.0

pub definition-returns-in_err-blame-2 : goal.definition-returns-in_err-blame-2
definition-returns-in_err-blame-2 t c =
    stopped _ c.from_residual-in_err-blame-2.result c.from_residual-in_err-blame-2.ensures.0

pub function-returns-in_err-function : goal.function-returns-in_err-function
function-returns-in_err-function t c =
    stopped _ c.from_residual.result c.from_residual.ensures.0

pub one_case-returns-in_err-header : goal.one_case-returns-in_err-header
one_case-returns-in_err-header t c =
    stopped _ c.from_residual.result c.from_residual.ensures.0

pub one_clause-returns-in_err-blame : goal.one_clause-returns-in_err-blame
one_clause-returns-in_err-blame t c =
    stopped _ c.from_residual.result c.from_residual.ensures.0

-- ---- turns of loops

pub statements-loop-s-preserved : goal.statements-loop-s-preserved
statements-loop-s-preserved t c =
    a_turn found (λ xs. findings c.args.at (plain_stmts xs)) (λ s. kind_findings c.args.at (out-Stmt s).first (plain_kind (out-Stmt s).kind)) (stmts-step c.args.at) c.loop-s.report c.statement.new.report _ c.args.items.now c.loop-s.s-index c.s-item.result
    c.loop-s-test.true c.s-item.is c.in_ok-statement.ensures c.loop-s.invariant

pub branches-loop-arm-preserved : goal.branches-loop-arm-preserved
branches-loop-arm-preserved t c =
    a_turn found (λ xs. arms_findings c.args.at (plain_arms xs)) (λ a. suite_findings c.args.at (plain_suite (out-Arm a).body)) (arms-step c.args.at) c.loop-arm.report c.suite.new.report _ c.args.items.now c.loop-arm.arm-index c.arm-item.result
    c.loop-arm-test.true c.arm-item.is c.in_ok-suite.ensures c.loop-arm.invariant

pub one_clause-returns : goal.one_clause-returns
one_clause-returns t c = grind (arith, common_steps)
