use Rattle.std.proofs.Common.{refl, arith}
use Rattle.py_syntax.specs.declared.stmt.Stmt.{out-Stmt}
use Rattle.py_syntax.specs.declared.stmt.Arm.{out-Arm}
use Rattle.py_syntax.specs.declared.stmt.Clause.{out-Clause}
use Rattle.py_syntax.specs.declared.stmt.Case.{out-Case}
use Rattle.py_syntax.specs.View.{plain_stmts, plain_kind, plain_suite, plain_arms, plain_clauses, plain_cases}
use Rattle.py_compile.specs.Definitions.{definitions, definitions_in, arms_definitions, clauses_definitions, cases_definitions}
use Rattle.py_compile_expr.proofs.Turns.{none_added, then, four}
use Rattle.py_compile_unit.specs.Defs.{suite_definitions}
use Rattle.py_compile_unit.proofs.Errs.{if_err}
use Rattle.py_compile_unit.proofs.FunctionTurns.{turn_of, said, none-is, some-is, stmts-are, if-is, stmts-step, arms-step, clauses-step, cases-step, while-is, for-is, try-is, def-is, match-is}
use Rattle.py_compile_unit.proofs.NoDefs.{no_def}
use Rattle.py_compile_unit.proofs.functions.+functions.Goals as goal

pub statements-loop-s-preserved : goal.statements-loop-s-preserved
statements-loop-s-preserved t c =
    turn_of (λ xs. definitions (plain_stmts xs)) (λ s. definitions_in (out-Stmt s).first (plain_kind (out-Stmt s).kind)) stmts-step _ _ _ c.args.items.now c.loop-s.s-index c.s-item.result
    c.loop-s-test.true c.s-item.is c.in_ok-statement.ensures c.loop-s.invariant

pub statements-returns : goal.statements-returns
statements-returns t c = none_added (λ xs. definitions (plain_stmts xs)) refl _ _ _ _ c.loop-s-test.false c.loop-s.invariant

pub in_arms-loop-arm-preserved : goal.in_arms-loop-arm-preserved
in_arms-loop-arm-preserved t c =
    turn_of (λ xs. arms_definitions (plain_arms xs)) (λ a. suite_definitions (plain_suite (out-Arm a).body)) arms-step _ _ _ c.args.items.now c.loop-arm.arm-index c.arm-item.result
    c.loop-arm-test.true c.arm-item.is c.in_ok-in_suite.ensures c.loop-arm.invariant

pub in_arms-returns : goal.in_arms-returns
in_arms-returns t c = none_added (λ xs. arms_definitions (plain_arms xs)) refl _ _ _ _ c.loop-arm-test.false c.loop-arm.invariant

pub in_clauses-loop-clause-preserved : goal.in_clauses-loop-clause-preserved
in_clauses-loop-clause-preserved t c =
    turn_of (λ xs. clauses_definitions (plain_clauses xs)) (λ d. suite_definitions (plain_suite (out-Clause d).body)) clauses-step _ _ _ c.args.items.now c.loop-clause.clause-index c.clause-item.result
    c.loop-clause-test.true c.clause-item.is c.in_ok-in_suite.ensures c.loop-clause.invariant

pub in_clauses-returns : goal.in_clauses-returns
in_clauses-returns t c = none_added (λ xs. clauses_definitions (plain_clauses xs)) refl _ _ _ _ c.loop-clause-test.false c.loop-clause.invariant

pub in_cases-loop-case-preserved : goal.in_cases-loop-case-preserved
in_cases-loop-case-preserved t c =
    turn_of (λ xs. cases_definitions (plain_cases xs)) (λ d. suite_definitions (plain_suite (out-Case d).body)) cases-step _ _ _ c.args.items.now c.loop-case.case-index c.case-item.result
    c.loop-case-test.true c.case-item.is c.in_ok-in_suite.ensures c.loop-case.invariant

pub in_cases-returns : goal.in_cases-returns
in_cases-returns t c = none_added (λ xs. cases_definitions (plain_cases xs)) refl _ _ _ _ c.loop-case-test.false c.loop-case.invariant

pub statement-returns-in_ok-in_suite-in-While : goal.statement-returns-in_ok-in_suite-in-While
statement-returns-in_ok-in_suite-in-While t c =
    then c.in_optional-in-While.result _ _ _ _ _ _ c.in_optional-in-While.ensures c.in_ok-in_suite-in-While.ensures
    (while-is c.args.line c.args.kind.now c.in-While.test c.in-While.body c.in-While.orelse c.in-While.is)

pub statement-returns-in_ok-in_suite-in-For : goal.statement-returns-in_ok-in_suite-in-For
statement-returns-in_ok-in_suite-in-For t c =
    then c.in_optional-in-For.result _ _ _ _ _ _ c.in_optional-in-For.ensures c.in_ok-in_suite-in-For.ensures
    (for-is c.args.line c.args.kind.now c.in-For.target c.in-For.over c.in-For.body c.in-For.orelse c.in-For.is)

pub statement-returns-in_ok-in_optional-in-Try : goal.statement-returns-in_ok-in_optional-in-Try
statement-returns-in_ok-in_optional-in-Try t c =
    four c.in_optional-in-Try-2.result _ _ _ _ _ _ _ _ _ _ c.in_ok-in_suite-in-Try.ensures c.in_ok-in_clauses-in-Try.ensures c.in_ok-in_optional-in-Try.ensures c.in_optional-in-Try-2.ensures
    (try-is c.args.line c.args.kind.now c.in-Try.body c.in-Try.clauses c.deref-in-Try.result.now c.in-Try.orelse c.in-Try.finally c.in-Try.is c.deref-in-Try.ensures.value)

pub statement-returns-in-Def : goal.statement-returns-in-Def
statement-returns-in-Def t c =
    said c.function.result _ _ _ _
    (def-is c.args.line c.args.kind.now c.in-Def.name c.in-Def.params c.in-Def.defaults c.in-Def.comma c.in-Def.body c.deref-in-Def.result.now c.deref-in-Def-2.result.now c.in-Def.is c.deref-in-Def.ensures.value c.deref-in-Def-2.ensures.value)
    c.function.ensures

pub statement-returns-in-Match : goal.statement-returns-in-Match
statement-returns-in-Match t c =
    said c.in_cases.result _ _ _ _ (match-is c.args.line c.args.kind.now c.in-Match.subject c.in-Match.header_last c.in-Match.cases c.deref-in-Match.result.now c.in-Match.is c.deref-in-Match.ensures.value) c.in_cases.ensures

pub statements-loop-s-init : goal.statements-loop-s-init
statements-loop-s-init t c = refl

pub statements-loop-s-smaller : goal.statements-loop-s-smaller
statements-loop-s-smaller t c = omega arith

pub in_arms-loop-arm-init : goal.in_arms-loop-arm-init
in_arms-loop-arm-init t c = refl

pub in_arms-loop-arm-smaller : goal.in_arms-loop-arm-smaller
in_arms-loop-arm-smaller t c = omega arith

pub in_clauses-loop-clause-init : goal.in_clauses-loop-clause-init
in_clauses-loop-clause-init t c = refl

pub in_clauses-loop-clause-smaller : goal.in_clauses-loop-clause-smaller
in_clauses-loop-clause-smaller t c = omega arith

pub in_cases-loop-case-init : goal.in_cases-loop-case-init
in_cases-loop-case-init t c = refl

pub in_cases-loop-case-smaller : goal.in_cases-loop-case-smaller
in_cases-loop-case-smaller t c = omega arith

pub in_optional-returns-in-Some : goal.in_optional-returns-in-Some
in_optional-returns-in-Some t c = said c.in_suite.result _ _ _ _ (some-is c.args.s.now c.in-Some.s c.in-Some.is) c.in_suite.ensures

pub in_optional-returns-in-None : goal.in_optional-returns-in-None
in_optional-returns-in-None t c = none-is _ c.args.s.now c.in-None.is

pub in_suite-returns : goal.in_suite-returns
in_suite-returns t c = said c.statements.result _ _ _ _ (stmts-are c.args.s.now c.deref.result.now c.deref.ensures.value) c.statements.ensures

pub statement-returns-in_ok-in_arms-in-If : goal.statement-returns-in_ok-in_arms-in-If
statement-returns-in_ok-in_arms-in-If t c = then c.in_optional.result _ _ _ _ _ _ c.in_optional.ensures c.in_ok-in_arms-in-If.ensures
    (if-is c.args.line c.args.kind.now c.in-If.arms c.deref.result.now c.in-If.orelse c.in-If.is c.deref.ensures.value)

pub statements-returns-in_err-statement : goal.statements-returns-in_err-statement
statements-returns-in_err-statement t c = if_err _ _ c.from_residual.ensures.0

pub in_arms-returns-in_err-in_suite : goal.in_arms-returns-in_err-in_suite
in_arms-returns-in_err-in_suite t c = if_err _ _ c.from_residual.ensures.0

pub in_clauses-returns-in_err-in_suite : goal.in_clauses-returns-in_err-in_suite
in_clauses-returns-in_err-in_suite t c = if_err _ _ c.from_residual.ensures.0

pub in_cases-returns-in_err-in_suite : goal.in_cases-returns-in_err-in_suite
in_cases-returns-in_err-in_suite t c = if_err _ _ c.from_residual.ensures.0

pub statement-returns-in_err-in_arms-in-If : goal.statement-returns-in_err-in_arms-in-If
statement-returns-in_err-in_arms-in-If t c = if_err _ _ c.from_residual.ensures.0

pub statement-returns-in_err-in_suite-in-While : goal.statement-returns-in_err-in_suite-in-While
statement-returns-in_err-in_suite-in-While t c = if_err _ _ c.from_residual-in_err-in_suite-in-While.ensures.0

pub statement-returns-in_err-in_suite-in-For : goal.statement-returns-in_err-in_suite-in-For
statement-returns-in_err-in_suite-in-For t c = if_err _ _ c.from_residual-in_err-in_suite-in-For.ensures.0

pub statement-returns-in_err-in_suite-in-Try : goal.statement-returns-in_err-in_suite-in-Try
statement-returns-in_err-in_suite-in-Try t c = if_err _ _ c.from_residual-in_err-in_suite-in-Try.ensures.0

pub statement-returns-in_err-in_clauses-in-Try : goal.statement-returns-in_err-in_clauses-in-Try
statement-returns-in_err-in_clauses-in-Try t c = if_err _ _ c.from_residual-in_err-in_clauses-in-Try.ensures.0

pub statement-returns-in_err-in_optional-in-Try : goal.statement-returns-in_err-in_optional-in-Try
statement-returns-in_err-in_optional-in-Try t c = if_err _ _ c.from_residual-in_err-in_optional-in-Try.ensures.0

pub statement-returns-in-Expr : goal.statement-returns-in-Expr
statement-returns-in-Expr t c = no_def _ c.args.line c.args.kind.now c.in-Expr.is

pub statement-returns-in-Expr-2 : goal.statement-returns-in-Expr-2
statement-returns-in-Expr-2 t c = no_def _ c.args.line c.args.kind.now c.in-Expr.is

pub statement-returns-in-Expr-3 : goal.statement-returns-in-Expr-3
statement-returns-in-Expr-3 t c = no_def _ c.args.line c.args.kind.now c.in-Expr.is

pub statement-returns-in-Expr-4 : goal.statement-returns-in-Expr-4
statement-returns-in-Expr-4 t c = no_def _ c.args.line c.args.kind.now c.in-Expr.is

pub statement-returns-in-Expr-5 : goal.statement-returns-in-Expr-5
statement-returns-in-Expr-5 t c = no_def _ c.args.line c.args.kind.now c.in-Expr.is

pub statement-returns-in-Expr-6 : goal.statement-returns-in-Expr-6
statement-returns-in-Expr-6 t c = no_def _ c.args.line c.args.kind.now c.in-Expr.is

pub statement-returns-in-Expr-7 : goal.statement-returns-in-Expr-7
statement-returns-in-Expr-7 t c = no_def _ c.args.line c.args.kind.now c.in-Expr.is

pub statement-returns-in-Expr-8 : goal.statement-returns-in-Expr-8
statement-returns-in-Expr-8 t c = no_def _ c.args.line c.args.kind.now c.in-Expr.is

pub statement-returns-in-Expr-9 : goal.statement-returns-in-Expr-9
statement-returns-in-Expr-9 t c = no_def _ c.args.line c.args.kind.now c.in-Expr.is

pub statement-returns-in-Expr-10 : goal.statement-returns-in-Expr-10
statement-returns-in-Expr-10 t c = no_def _ c.args.line c.args.kind.now c.in-Expr.is

pub statement-returns-in-Expr-11 : goal.statement-returns-in-Expr-11
statement-returns-in-Expr-11 t c = no_def _ c.args.line c.args.kind.now c.in-Expr.is

pub statement-returns-in-Expr-12 : goal.statement-returns-in-Expr-12
statement-returns-in-Expr-12 t c = no_def _ c.args.line c.args.kind.now c.in-Expr.is
