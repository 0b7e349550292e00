use Rattle.std.proofs.Common.{false, [], ◌∷◌, ◌++◌, refl, ap, sym, ◌∙◌}
use Rattle.py_syntax.specs.declared.stmt.Stmt.{out-Stmt}
use Rattle.py_syntax.specs.Marks.{body_marks, function_marks}
use Rattle.py_syntax.specs.View.{plain_expr, plain_stmts, plain_kind, plain_suite, plain_opt_suite, plain_arms, plain_clauses, plain_cases}
use Rattle.py_scope.proofs.Forms.{plain-Suite}
use Rattle.cov_pieces.specs.Pieces.{node, header, marks, suite_fit, opt_fit, arms_fit, clauses_fit, cases_fit, heads, test_words, loop_words, stmts_pieces, kind_pieces, suite_pieces, opt_pieces, arms_pieces, clauses_pieces, cases_pieces}
use Rattle.cov_pieces.specs.Views.{led_pieces, first_pieces}
use Rattle.cov_pieces.proofs.Agreeing.{marks-are}
use Rattle.cov_pieces.proofs.Steps.{led-step, led-none, arm_pieces, arms-step, clause_pieces, clauses-step, case_pieces, cases-step, expr-kind, assign-kind, augmented-kind, idle-kind, return-kind, raise-kind, assert-kind, global-kind, import-kind, from-kind, if-kind, while-kind, for-kind, try-kind, def-kind, match-kind}
use Rattle.cov_pieces.proofs.Walks.{next, nothing_more, as_pieces, told, in_node, in_try, of_marks_alone, begun, turns, ends}
use Rattle.cov_pieces.proofs.statements.+statements.Goals as goal

pub statement-returns-in-Expr : goal.statement-returns-in-Expr
statement-returns-in-Expr t c =
    told (kind_pieces c.args.line) (expr-kind c.args.kind.now _ c.in-Expr.is) c.expression.ensures

pub statement-returns-in-Assign : goal.statement-returns-in-Assign
statement-returns-in-Assign t c =
    told (kind_pieces c.args.line) (assign-kind c.args.kind.now _ _ _ c.in-Assign.is c.deref.ensures.value) c.assignment.ensures

pub statement-returns-in-AugAssign : goal.statement-returns-in-AugAssign
statement-returns-in-AugAssign t c =
    told (kind_pieces c.args.line) (augmented-kind c.args.kind.now _ _ _ c.in-AugAssign.is) c.augmented.ensures

pub statement-returns-in-Pass : goal.statement-returns-in-Pass
statement-returns-in-Pass t c =
    as_pieces (sym (idle-kind c.args.line c.args.kind.now c.in-Pass.is)) c.idle.ensures

pub statement-returns-in-Return : goal.statement-returns-in-Return
statement-returns-in-Return t c =
    told (kind_pieces c.args.line) (return-kind c.args.kind.now _ c.in-Return.is) c.leaving.ensures

pub statement-returns-in-Raise : goal.statement-returns-in-Raise
statement-returns-in-Raise t c =
    told (kind_pieces c.args.line) (raise-kind c.args.kind.now _ c.in-Raise.is) c.leaving-in-Raise.ensures

pub statement-returns-in-Assert : goal.statement-returns-in-Assert
statement-returns-in-Assert t c =
    told (kind_pieces c.args.line) (assert-kind c.args.kind.now _ _ c.in-Assert.is) c.assertion.ensures

pub statement-returns-in-Global : goal.statement-returns-in-Global
statement-returns-in-Global t c =
    told (kind_pieces c.args.line) (global-kind c.args.kind.now _ _ c.in-Global.is c.deref-in-Global.ensures.value) c.declarations.ensures

pub statement-returns-in-Import : goal.statement-returns-in-Import
statement-returns-in-Import t c =
    told (kind_pieces c.args.line) (import-kind c.args.kind.now _ _ c.in-Import.is c.deref-in-Import.ensures.value) c.imports.ensures

pub statement-returns-in-From : goal.statement-returns-in-From
statement-returns-in-From t c =
    told (kind_pieces c.args.line) (from-kind c.args.kind.now _ _ _ c.in-From.is c.deref-in-From.ensures.value) c.imports_from.ensures

pub statement-returns-in-If : goal.statement-returns-in-If
statement-returns-in-If t c =
    told (kind_pieces c.args.line) (if-kind c.args.kind.now _ _ _ c.in-If.is c.deref-arms.ensures.value)
    (in_node (arms_fit (plain_arms c.deref-arms.result.now) ++ opt_fit (plain_opt_suite c.in-If.orelse) ∷ []) (arms_pieces (plain_arms c.deref-arms.result.now) ++ opt_pieces (plain_opt_suite c.in-If.orelse)) c.begin_if.ensures (next c.branches.ensures c.opt.ensures) c.push.ensures)

pub statement-returns-in-While : goal.statement-returns-in-While
statement-returns-in-While t c =
    told (kind_pieces c.args.line) (while-kind c.args.kind.now _ _ _ c.in-While.is)
    (in_node (suite_fit (plain_suite c.in-While.inner) ∷ opt_fit (plain_opt_suite c.in-While.orelse) ∷ []) (header (test_words c.args.line (plain_expr c.in-While.asked)) c.args.line ++ (suite_pieces (plain_suite c.in-While.inner) ++ opt_pieces (plain_opt_suite c.in-While.orelse))) c.begin_loop.ensures (next c.test.ensures (next c.suite.ensures c.opt-in-While.ensures)) c.push-in-While.ensures)

pub statement-returns-in-For : goal.statement-returns-in-For
statement-returns-in-For t c =
    told (kind_pieces c.args.line) (for-kind c.args.kind.now _ _ _ _ c.in-For.is)
    (in_node (suite_fit (plain_suite c.in-For.inner) ∷ opt_fit (plain_opt_suite c.in-For.orelse) ∷ []) (header (loop_words c.args.line (plain_expr c.in-For.target) (plain_expr c.in-For.over)) c.args.line ++ (suite_pieces (plain_suite c.in-For.inner) ++ opt_pieces (plain_opt_suite c.in-For.orelse))) c.begin_loop-in-For.ensures (next c.goes_over.ensures (next c.suite-in-For.ensures c.opt-in-For.ensures)) c.push-in-For.ensures)

pub statement-returns-in-Try : goal.statement-returns-in-Try
statement-returns-in-Try t c =
    told (kind_pieces c.args.line) (try-kind c.args.kind.now _ _ _ _ _ c.in-Try.is c.deref-clauses.ensures.value)
    (in_try (suite_fit (plain_suite c.in-Try.inner) ∷ (clauses_fit (plain_clauses c.deref-clauses.result.now) ++ opt_fit (plain_opt_suite c.in-Try.orelse) ∷ opt_fit (plain_opt_suite c.in-Try.finally) ∷ [])) c.args.line (suite_pieces (plain_suite c.in-Try.inner) ++ (clauses_pieces (plain_clauses c.deref-clauses.result.now) ++ (opt_pieces (plain_opt_suite c.in-Try.orelse) ++ opt_pieces (plain_opt_suite c.in-Try.finally))))
    c.begin_try.ensures (next c.suite-in-Try.ensures (next c.handlers.ensures (next c.opt-in-Try.ensures c.opt-in-Try-2.ensures))) c.push-in-Try.ensures)

pub statement-returns-in-Def : goal.statement-returns-in-Def
statement-returns-in-Def t c =
    told (kind_pieces c.args.line) (def-kind c.args.kind.now _ _ _ _ _ _ _ _ c.in-Def.is c.deref-in-Def.ensures.value c.deref-in-Def-2.ensures.value c.deref-in-Def-3.ensures.value)
    (next c.definition.ensures (next c.push-in-Def.ensures (as_pieces (ap marks (ap function_marks (plain-Suite c.in-Def.inner) ∙ ap (λ xs. body_marks (plain_stmts xs)) (sym c.deref-in-Def-3.ensures.value))) c.function.ensures)))

pub statement-returns-in-Match : goal.statement-returns-in-Match
statement-returns-in-Match t c =
    told (kind_pieces c.args.line) (match-kind c.args.kind.now _ _ _ _ c.in-Match.is c.deref-cases.ensures.value)
    (in_node (cases_fit (plain_cases c.deref-cases.result.now)) (header (test_words c.args.line (plain_expr c.in-Match.subject)) c.args.line ++ cases_pieces (plain_cases c.deref-cases.result.now)) c.begin_match.ensures (next c.test-in-Match.ensures c.choices.ensures) c.push-in-Match.ensures)

pub opt-returns-in-None : goal.opt-returns-in-None
opt-returns-in-None t c =
    told (λ o. opt_pieces (plain_opt_suite o)) c.in-None.is nothing_more

pub opt-returns-in-Some : goal.opt-returns-in-Some
opt-returns-in-Some t c =
    told (λ o. opt_pieces (plain_opt_suite o)) c.in-Some.is c.suite.ensures

pub suite-returns : goal.suite-returns
suite-returns t c =
    told suite_pieces (plain-Suite c.args.s.now) (told (λ xs. node (heads (plain_stmts xs)) (stmts_pieces (plain_stmts xs))) (sym c.deref-items.ensures.value)
    (next c.push.ensures (next c.heads.ensures (next c.push-2.ensures (next c.statements.ensures c.push-3.ensures)))))

pub function-returns : goal.function-returns
function-returns t c =
    told (λ z. marks (function_marks z)) (plain-Suite c.args.s.now) (told (λ xs. marks (body_marks (plain_stmts xs))) (sym c.deref.ensures.value) (of_marks_alone c.keep_marks_alone-alone.result (body_marks (plain_stmts c.deref.result.now)) (marks-are (plain_stmts c.deref.result.now)) c.keep_marks_alone-alone.ensures c.statements.ensures c.restore.ensures))

pub statements-loop-s-init : goal.statements-loop-s-init
statements-loop-s-init t c =
    begun refl

pub statements-loop-s-preserved : goal.statements-loop-s-preserved
statements-loop-s-preserved t c =
    turns (λ xs. led_pieces c.loop-s.first (plain_stmts xs)) (λ xs. led_pieces false (plain_stmts xs))
    (λ s. first_pieces c.loop-s.first (out-Stmt s).first (plain_kind (out-Stmt s).kind)) (led-step c.loop-s.first)
    c.args.items.now c.loop-s.s-index c.s-item.result c.loop-s-test.true c.s-item.is c.leading.ensures c.loop-s.invariant

pub statements-returns : goal.statements-returns
statements-returns t c =
    ends (λ xs. led_pieces c.loop-s.first (plain_stmts xs)) c.args.items.now _ c.loop-s-test.false (led-none c.loop-s.first) c.loop-s.invariant

pub branches-loop-arm-init : goal.branches-loop-arm-init
branches-loop-arm-init t c =
    begun refl

pub branches-loop-arm-preserved : goal.branches-loop-arm-preserved
branches-loop-arm-preserved t c =
    turns (λ xs. arms_pieces (plain_arms xs)) (λ xs. arms_pieces (plain_arms xs)) arm_pieces arms-step
    c.args.items.now c.loop-arm.arm-index c.arm-item.result c.loop-arm-test.true c.arm-item.is (next c.test.ensures c.suite.ensures) c.loop-arm.invariant

pub branches-returns : goal.branches-returns
branches-returns t c =
    ends (λ xs. arms_pieces (plain_arms xs)) c.args.items.now _ c.loop-arm-test.false refl c.loop-arm.invariant

pub handlers-loop-handler-init : goal.handlers-loop-handler-init
handlers-loop-handler-init t c =
    begun refl

pub handlers-loop-handler-preserved : goal.handlers-loop-handler-preserved
handlers-loop-handler-preserved t c =
    turns (λ xs. clauses_pieces (plain_clauses xs)) (λ xs. clauses_pieces (plain_clauses xs)) clause_pieces clauses-step
    c.args.items.now c.loop-handler.handler-index c.handler-item.result c.loop-handler-test.true c.handler-item.is (next c.clause.ensures c.suite.ensures) c.loop-handler.invariant

pub handlers-returns : goal.handlers-returns
handlers-returns t c =
    ends (λ xs. clauses_pieces (plain_clauses xs)) c.args.items.now _ c.loop-handler-test.false refl c.loop-handler.invariant

pub choices-loop-choice-init : goal.choices-loop-choice-init
choices-loop-choice-init t c =
    begun refl

pub choices-loop-choice-preserved : goal.choices-loop-choice-preserved
choices-loop-choice-preserved t c =
    turns (λ xs. cases_pieces (plain_cases xs)) (λ xs. cases_pieces (plain_cases xs)) case_pieces cases-step
    c.args.items.now c.loop-choice.choice-index c.choice-item.result c.loop-choice-test.true c.choice-item.is (next c.case.ensures c.suite.ensures) c.loop-choice.invariant

pub choices-returns : goal.choices-returns
choices-returns t c =
    ends (λ xs. cases_pieces (plain_cases xs)) c.args.items.now _ c.loop-choice-test.false refl c.loop-choice.invariant
