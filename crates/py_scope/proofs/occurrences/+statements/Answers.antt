use Rattle.std.proofs.Common.{◌++◌, refl}
use Rattle.py_syntax.specs.View.{plain_expr, plain_kind, plain_suite, plain_stmts, plain_arms, plain_clauses, plain_cases}
use Rattle.py_scope.specs.Occurrences.{in_expr, in_kind, in_suite, occurrences, in_arms, in_clauses, in_cases}
use Rattle.py_syntax.specs.declared.stmt.Arm.{out-Arm}
use Rattle.py_syntax.specs.declared.stmt.Case.{out-Case}
use Rattle.py_syntax.specs.declared.stmt.Clause.{out-Clause}
use Rattle.py_syntax.specs.declared.stmt.Stmt.{out-Stmt}
use Rattle.py_scope.proofs.Gathering.{listed, at_end, goes_on, three, four_parts, both_taken, renamed, silent, stopped, a_turn}
use Rattle.py_scope.proofs.Statements.{expr-is, assign-is, aug_assign-is, idle-is, return-is, raise-is, assert-is, global-is, import-is, from-is, if-is, while-is, for-is, try-is, def-is, match-is, suite-is, opt-is, stmts-step, arms-step, clause_header, clauses-step, case_header, cases-step}
use Rattle.py_scope.proofs.occurrences.+statements.Goals as goal

pub statements-returns : goal.statements-returns
statements-returns t c = at_end listed (λ xs. occurrences (plain_stmts xs)) refl _ _ _ _ c.loop-s-test.false c.loop-s.invariant

pub branches-returns : goal.branches-returns
branches-returns t c = at_end listed (λ xs. in_arms (plain_arms xs)) refl _ _ _ _ c.loop-arm-test.false c.loop-arm.invariant

pub handlers-returns : goal.handlers-returns
handlers-returns t c = at_end listed (λ xs. in_clauses (plain_clauses xs)) refl _ _ _ _ c.loop-clause-test.false c.loop-clause.invariant

pub choices-returns : goal.choices-returns
choices-returns t c = at_end listed (λ xs. in_cases (plain_cases xs)) refl _ _ _ _ c.loop-case-test.false c.loop-case.invariant

-- ---- a statement by its form

pub statement-returns-in-Expr : goal.statement-returns-in-Expr
statement-returns-in-Expr t c =
    renamed listed c.expr.result _ _ _ _ (expr-is c.args.line c.args.kind.now _ c.in-Expr.is) c.expr.ensures

pub statement-returns-in-Assign : goal.statement-returns-in-Assign
statement-returns-in-Assign t c =
    renamed listed c.assignment.result _ _ _ _ (assign-is c.args.line c.args.kind.now c.in-Assign.to _ _ c.in-Assign.is c.deref.ensures.value) c.assignment.ensures

pub statement-returns-in-AugAssign : goal.statement-returns-in-AugAssign
statement-returns-in-AugAssign t c =
    renamed listed c.augmented.result _ _ _ _ (aug_assign-is c.args.line c.args.kind.now _ _ _ c.in-AugAssign.is) c.augmented.ensures

pub statement-returns-in-Pass : goal.statement-returns-in-Pass
statement-returns-in-Pass t c =
    silent listed _ _ (idle-is c.args.line c.args.kind.now c.in-Pass.is)

pub statement-returns-in-Pass-2 : goal.statement-returns-in-Pass-2
statement-returns-in-Pass-2 t c =
    silent listed _ _ (idle-is c.args.line c.args.kind.now c.in-Pass.is)

pub statement-returns-in-Pass-3 : goal.statement-returns-in-Pass-3
statement-returns-in-Pass-3 t c =
    silent listed _ _ (idle-is c.args.line c.args.kind.now c.in-Pass.is)

pub statement-returns-in-Return : goal.statement-returns-in-Return
statement-returns-in-Return t c =
    renamed listed c.option.result _ _ _ _ (return-is c.args.line c.args.kind.now _ c.in-Return.is) c.option.ensures

pub statement-returns-in-Raise : goal.statement-returns-in-Raise
statement-returns-in-Raise t c =
    renamed listed c.option-in-Raise.result _ _ _ _ (raise-is c.args.line c.args.kind.now _ c.in-Raise.is) c.option-in-Raise.ensures

pub statement-returns-in-Assert : goal.statement-returns-in-Assert
statement-returns-in-Assert t c =
    renamed listed c.assertion.result _ _ _ _ (assert-is c.args.line c.args.kind.now _ _ c.in-Assert.is) c.assertion.ensures

pub statement-returns-in-Global : goal.statement-returns-in-Global
statement-returns-in-Global t c =
    renamed listed c.declared.result _ _ _ _ (global-is c.args.line c.args.kind.now c.in-Global.names _ c.in-Global.is c.deref-in-Global.ensures.value) c.declared.ensures

pub statement-returns-in-Import : goal.statement-returns-in-Import
statement-returns-in-Import t c =
    renamed listed c.aliases.result _ _ _ _ (import-is c.args.line c.args.kind.now c.in-Import.names _ c.in-Import.is c.deref-in-Import.ensures.value) c.aliases.ensures

pub statement-returns-in-From : goal.statement-returns-in-From
statement-returns-in-From t c =
    renamed listed c.aliases-in-From.result _ _ _ _ (from-is c.args.line c.args.kind.now _ c.in-From.names _ c.in-From.is c.deref-in-From.ensures.value) c.aliases-in-From.ensures

pub statement-returns-in_ok-branches-in-If : goal.statement-returns-in_ok-branches-in-If
statement-returns-in_ok-branches-in-If t c =
    goes_on listed c.opt.result _ _ _ _ _ _ c.opt.ensures c.in_ok-branches-in-If.ensures (if-is c.args.line c.args.kind.now c.in-If.arms c.in-If.orelse _ c.in-If.is c.deref-in-If.ensures.value)

pub statement-returns-in_ok-suite-in-While : goal.statement-returns-in_ok-suite-in-While
statement-returns-in_ok-suite-in-While t c =
    three listed c.opt-in-While.result _ _ _ _ _ _ _ _ c.in_ok-expr-in-While.ensures c.in_ok-suite-in-While.ensures c.opt-in-While.ensures (while-is c.args.line c.args.kind.now c.in-While.test c.in-While.body c.in-While.orelse c.in-While.is)

pub statement-returns-in_ok-suite-in-For : goal.statement-returns-in_ok-suite-in-For
statement-returns-in_ok-suite-in-For t c =
    three listed c.opt-in-For.result _ _ _ _ _ _ _ _ (both_taken listed _ _ _ _ _ c.in_ok-target-in-For.ensures c.in_ok-expr-in-For.ensures) c.in_ok-suite-in-For.ensures c.opt-in-For.ensures
    (for-is c.args.line c.args.kind.now c.in-For.to c.in-For.over c.in-For.body c.in-For.orelse c.in-For.is)

pub statement-returns-in_ok-opt-in-Try : goal.statement-returns-in_ok-opt-in-Try
statement-returns-in_ok-opt-in-Try t c =
    four_parts listed c.opt-in-Try-2.result _ _ _ _ _ _ _ _ _ _ c.in_ok-suite-in-Try.ensures c.in_ok-handlers-in-Try.ensures c.in_ok-opt-in-Try.ensures c.opt-in-Try-2.ensures
    (try-is c.args.line c.args.kind.now c.in-Try.body c.in-Try.clauses c.in-Try.orelse c.in-Try.finally _ c.in-Try.is c.deref-in-Try.ensures.value)

pub statement-returns-in-Def : goal.statement-returns-in-Def
statement-returns-in-Def t c =
    renamed listed c.definition.result _ _ _ _ (def-is c.args.line c.args.kind.now c.in-Def.name c.in-Def.params c.in-Def.defaults c.in-Def.comma c.in-Def.body _ c.in-Def.is c.deref-in-Def.ensures.value) c.definition.ensures

pub statement-returns-in_ok-expr-in-Match : goal.statement-returns-in_ok-expr-in-Match
statement-returns-in_ok-expr-in-Match t c =
    goes_on listed c.choices.result _ _ _ _ _ _ c.choices.ensures c.in_ok-expr-in-Match.ensures (match-is c.args.line c.args.kind.now c.in-Match.subject c.in-Match.header_last c.in-Match.cases _ c.in-Match.is c.deref-in-Match.ensures.value)

pub opt-returns-in-None : goal.opt-returns-in-None
opt-returns-in-None t c =
    silent listed _ _ (opt-is _ _ c.in-None.is)

pub opt-returns-in-Some : goal.opt-returns-in-Some
opt-returns-in-Some t c =
    renamed listed c.suite.result _ _ _ _ (opt-is _ _ c.in-Some.is) c.suite.ensures

pub suite-returns : goal.suite-returns
suite-returns t c =
    renamed listed c.statements.result _ _ _ _ (suite-is c.args.s.now _ c.deref.ensures.value) c.statements.ensures

-- ---- memory that doesn't suffice

pub statement-returns-in_err-branches-in-If : goal.statement-returns-in_err-branches-in-If
statement-returns-in_err-branches-in-If t c =
    stopped _ c.from_residual.result c.from_residual.ensures.0

pub statement-returns-in_err-expr-in-While : goal.statement-returns-in_err-expr-in-While
statement-returns-in_err-expr-in-While t c =
    stopped _ c.from_residual-in_err-expr-in-While.result c.from_residual-in_err-expr-in-While.ensures.0

pub statement-returns-in_err-suite-in-While : goal.statement-returns-in_err-suite-in-While
statement-returns-in_err-suite-in-While t c =
    stopped _ c.from_residual-in_err-suite-in-While.result c.from_residual-in_err-suite-in-While.ensures.0

pub statement-returns-in_err-target-in-For : goal.statement-returns-in_err-target-in-For
statement-returns-in_err-target-in-For t c =
    stopped _ c.from_residual-in_err-target-in-For.result c.from_residual-in_err-target-in-For.ensures.0

pub statement-returns-in_err-expr-in-For : goal.statement-returns-in_err-expr-in-For
statement-returns-in_err-expr-in-For t c =
    stopped _ c.from_residual-in_err-expr-in-For.result c.from_residual-in_err-expr-in-For.ensures.0

pub statement-returns-in_err-suite-in-For : goal.statement-returns-in_err-suite-in-For
statement-returns-in_err-suite-in-For t c =
    stopped _ c.from_residual-in_err-suite-in-For.result c.from_residual-in_err-suite-in-For.ensures.0

pub statement-returns-in_err-suite-in-Try : goal.statement-returns-in_err-suite-in-Try
statement-returns-in_err-suite-in-Try t c =
    stopped _ c.from_residual-in_err-suite-in-Try.result c.from_residual-in_err-suite-in-Try.ensures.0

pub statement-returns-in_err-handlers-in-Try : goal.statement-returns-in_err-handlers-in-Try
statement-returns-in_err-handlers-in-Try t c =
    stopped _ c.from_residual-in_err-handlers-in-Try.result c.from_residual-in_err-handlers-in-Try.ensures.0

pub statement-returns-in_err-opt-in-Try : goal.statement-returns-in_err-opt-in-Try
statement-returns-in_err-opt-in-Try t c =
    stopped _ c.from_residual-in_err-opt-in-Try.result c.from_residual-in_err-opt-in-Try.ensures.0

pub statement-returns-in_err-expr-in-Match : goal.statement-returns-in_err-expr-in-Match
statement-returns-in_err-expr-in-Match t c =
    stopped _ c.from_residual-in_err-expr-in-Match.result c.from_residual-in_err-expr-in-Match.ensures.0

pub statements-returns-in_err-statement : goal.statements-returns-in_err-statement
statements-returns-in_err-statement t c =
    stopped _ c.from_residual.result c.from_residual.ensures.0

pub branches-returns-in_err-expr : goal.branches-returns-in_err-expr
branches-returns-in_err-expr t c =
    stopped _ c.from_residual.result c.from_residual.ensures.0

pub branches-returns-in_err-suite : goal.branches-returns-in_err-suite
branches-returns-in_err-suite t c =
    stopped _ c.from_residual-in_err-suite.result c.from_residual-in_err-suite.ensures.0

pub choices-returns-in_err-pattern : goal.choices-returns-in_err-pattern
choices-returns-in_err-pattern t c =
    stopped _ c.from_residual.result c.from_residual.ensures.0

pub choices-returns-in_err-option : goal.choices-returns-in_err-option
choices-returns-in_err-option t c =
    stopped _ c.from_residual-in_err-option.result c.from_residual-in_err-option.ensures.0

pub choices-returns-in_err-suite : goal.choices-returns-in_err-suite
choices-returns-in_err-suite t c =
    stopped _ c.from_residual-in_err-suite.result c.from_residual-in_err-suite.ensures.0

pub handlers-returns-in_err-option : goal.handlers-returns-in_err-option
handlers-returns-in_err-option t c =
    stopped _ c.from_residual.result c.from_residual.ensures.0

pub handlers-returns-in_err-bound : goal.handlers-returns-in_err-bound
handlers-returns-in_err-bound t c =
    stopped _ c.from_residual-in_err-bound.result c.from_residual-in_err-bound.ensures.0

pub handlers-returns-in_err-suite : goal.handlers-returns-in_err-suite
handlers-returns-in_err-suite t c =
    stopped _ c.from_residual-in_err-suite.result c.from_residual-in_err-suite.ensures.0

-- ---- turns of loops

pub statements-loop-s-preserved : goal.statements-loop-s-preserved
statements-loop-s-preserved t c =
    a_turn listed (λ xs. occurrences (plain_stmts xs)) (λ s. in_kind (out-Stmt s).first (plain_kind (out-Stmt s).kind)) stmts-step c.loop-s.out.items c.statement.new.out.items _ c.args.items.now c.loop-s.s-index c.s-item.result
    c.loop-s-test.true c.s-item.is c.in_ok-statement.ensures c.loop-s.invariant

pub branches-loop-arm-preserved : goal.branches-loop-arm-preserved
branches-loop-arm-preserved t c =
    a_turn listed (λ xs. in_arms (plain_arms xs)) (λ a. in_expr (plain_expr (out-Arm a).test) ++ in_suite (plain_suite (out-Arm a).body)) arms-step c.loop-arm.out.items c.suite.new.out.items _ c.args.items.now c.loop-arm.arm-index c.arm-item.result
    c.loop-arm-test.true c.arm-item.is (both_taken listed _ _ _ _ _ c.in_ok-expr.ensures c.in_ok-suite.ensures) c.loop-arm.invariant

pub handlers-loop-clause-preserved : goal.handlers-loop-clause-preserved
handlers-loop-clause-preserved t c =
    a_turn listed (λ xs. in_clauses (plain_clauses xs)) (λ d. clause_header d ++ in_suite (plain_suite (out-Clause d).body)) clauses-step c.loop-clause.out.items c.suite.new.out.items _ c.args.items.now c.loop-clause.clause-index c.clause-item.result
    c.loop-clause-test.true c.clause-item.is (both_taken listed _ _ _ _ _ (both_taken listed _ _ _ _ _ c.in_ok-option.ensures c.in_ok-bound.ensures) c.in_ok-suite.ensures) c.loop-clause.invariant

pub choices-loop-case-preserved : goal.choices-loop-case-preserved
choices-loop-case-preserved t c =
    a_turn listed (λ xs. in_cases (plain_cases xs)) (λ d. case_header d ++ in_suite (plain_suite (out-Case d).body)) cases-step c.loop-case.out.items c.suite.new.out.items _ c.args.items.now c.loop-case.case-index c.case-item.result
    c.loop-case-test.true c.case-item.is (both_taken listed _ _ _ _ _ (both_taken listed _ _ _ _ _ c.in_ok-pattern.ensures c.in_ok-option.ensures) c.in_ok-suite.ensures) c.loop-case.invariant
