use Rattle.std.proofs.Common.{◌≡◌, ◌+◌, ◌++◌, true, refl, sym, ap, ◌∙◌, arith}
use Rattle.std.proofs.lemmas.List.{append-nil}
use Rattle.std.specs.Option.{option_map}
use Rattle.py_syntax.specs.declared.stmt.Arm.{out-Arm}
use Rattle.py_syntax.specs.declared.stmt.Clause.{out-Clause}
use Rattle.py_syntax.specs.declared.stmt.Case.{out-Case}
use Rattle.py_syntax.specs.declared.stmt.Suite.{out-Suite}
use Rattle.py_syntax.specs.View.{plain_expr, plain_pattern, plain_stmts, plain_kind, plain_suite, plain_opt_suite, plain_arms, plain_clauses, plain_cases}
use Rattle.py_compile_expr.proofs.Turns.{kept, then, and_then, three, four, the_number, none_added, none_counted}
use Rattle.py_compile_expr.specs.Expressions.{expr_size}
use Rattle.py_compile.specs.Statements.{kind_size, kind_code, opt_size, opt_code, arms_size, arms_code, clauses_size, clauses_code, cases_size, cases_code, stmts_size, stmts_code}
use Rattle.py_compile.specs.Ways.{in_hand}
use Rattle.py_compile_body.specs.Parts.{at_lines, suite_size, try_end, try_body, clause_begin, clause_ways, case_begin, handlers_size}
use Rattle.py_compile_body.specs.WaysView.{plain_ways}
use Rattle.py_compile_body.proofs.Ends.{one_more, one_added}
use Rattle.py_compile_body.proofs.Forms.{while_size, for_size, try_size, try_end-size}
use Rattle.py_compile_body.proofs.KindViews.{body_is, line_is, opt_some_size, opt_some_code, expr_shown, assign_shown, aug_assign_shown, pass_shown, break_shown, continue_shown, return_shown, raise_shown, assert_shown, import_shown, from_shown, def_shown, if_shown, while_shown, for_shown, try_shown, match_shown, handlers_node, handlers_size-is, handlers_size-none, handlers_code-none, finally_hand}
use Rattle.py_compile_body.proofs.Compounds.{if_whole, while_node, while_whole, for_node, for_whole, try_body_node, try_whole, finally_node, match_node}
use Rattle.py_compile_body.proofs.SuiteTurns.{stmts_added, stmts_counted, arms_added, arms_counted, clauses_added, clauses_counted, clause_next-is, clause_counts, clause_hand, cases_added, cases_counted, case_begin-is}
use Rattle.py_compile_body.proofs.+statements.Goals as goal

-- ---- statements in a row

pub statements::put_stmts-loop-s-preserved : goal.statements::put_stmts-loop-s-preserved
statements::put_stmts-loop-s-preserved t c = record {
  cells = stmts_added (at_lines c.args.defs.now) (plain_ways c.args.ways) c.loop-s.to c.in_ok-to.to c.args.items.now c.loop-s.s-index c.s-item.result _ _ _ c.loop-s-test.true c.s-item.is c.in_ok-to.ensures.place c.in_ok-to.ensures.cells c.loop-s.invariant.cells;
  place = stmts_counted (in_hand (plain_ways c.args.ways)) c.args.items.now c.loop-s.s-index c.s-item.result c.loop-s.to c.in_ok-to.to _ c.loop-s-test.true c.s-item.is c.in_ok-to.ensures.place c.loop-s.invariant.place;
}

pub statements::put_stmts-returns-clause-cells : goal.statements::put_stmts-returns-clause-cells
statements::put_stmts-returns-clause-cells t c =
    none_added (λ xs. stmts_code (at_lines c.args.defs.now) (plain_ways c.args.ways) c.loop-s.to (plain_stmts xs)) refl _ _ _ _ c.loop-s-test.false c.loop-s.invariant.cells

pub statements::put_stmts-returns-clause-place : goal.statements::put_stmts-returns-clause-place
statements::put_stmts-returns-clause-place t c = none_counted (λ xs. stmts_size (in_hand (plain_ways c.args.ways)) (plain_stmts xs)) refl _ _ _ _ c.loop-s-test.false c.loop-s.invariant.place

-- ---- suites

pub statements::put_suite-returns-clause-cells : goal.statements::put_suite-returns-clause-cells
statements::put_suite-returns-clause-cells t c =
    kept c.put_stmts.result _ _ _ _ (ap (stmts_code (at_lines c.args.defs.now) (plain_ways c.args.ways) c.args.at) (body_is c.args.s.now ∙ ap plain_stmts (sym c.deref.ensures.value))) c.put_stmts.ensures.cells

pub statements::put_suite-returns-clause-place : goal.statements::put_suite-returns-clause-place
statements::put_suite-returns-clause-place t c =
    the_number c.put_stmts.result _ _ c.put_stmts.ensures.place (ap (λ b. c.args.at + stmts_size (in_hand (plain_ways c.args.ways)) b) (ap plain_stmts c.deref.ensures.value ∙ sym (body_is c.args.s.now)))

pub statements::put_opt-returns-in-Some-clause-cells : goal.statements::put_opt-returns-in-Some-clause-cells
statements::put_opt-returns-in-Some-clause-cells t c =
    kept c.put_suite.result _ _ _ _
    (ap (λ o. opt_code (at_lines c.args.defs.now) (plain_ways c.args.ways) c.args.at (plain_opt_suite o)) c.in-Some.is ∙ opt_some_code (at_lines c.args.defs.now) (plain_ways c.args.ways) c.args.at (plain_suite c.in-Some.s)) c.put_suite.ensures.cells

pub statements::put_opt-returns-in-Some-clause-place : goal.statements::put_opt-returns-in-Some-clause-place
statements::put_opt-returns-in-Some-clause-place t c =
    let h = in_hand (plain_ways c.args.ways) in
    the_number c.put_suite.result _ _ c.put_suite.ensures.place (ap (λ n. c.args.at + n) (sym (ap (λ o. opt_size h (plain_opt_suite o)) c.in-Some.is ∙ opt_some_size h (plain_suite c.in-Some.s))))

-- ---- tests, clauses and cases

pub branches::put_arms-loop-arm-preserved : goal.branches::put_arms-loop-arm-preserved
branches::put_arms-loop-arm-preserved t c =
    let v = plain_ways c.args.ways in
    let a = c.arm-item.result in
    let e = plain_expr (out-Arm a).test in
    let s = plain_suite (out-Arm a).body in
    let next = c.in_ok-next.ensures ∙ ap (λ h. c.loop-arm.to + 1 + expr_size e + 1 + suite_size h s + 1) c.in_hand.ensures in
    let one = c.in_ok-begin.ensures.place in
    let two = c.in_ok-jump.ensures.place in
    let three = c.in_ok-to.ensures.place in
    record {
      cells = arms_added (at_lines c.args.defs.now) v c.loop-arm.to c.in_ok-begin.begin c.in_ok-to.to c.args.end (out-Suite (out-Arm a).body).first c.in_ok-next.next c.args.items.now c.loop-arm.arm-index a _ _ _ _ _ c.loop-arm-test.true c.arm-item.is
          (sym (line_is (out-Arm a).body)) next one (omega (arith, next, one, two, three)) c.in_ok-begin.ensures.cells c.in_ok-jump.ensures.cells c.in_ok-to.ensures.cells c.loop-arm.invariant.cells;
      place = arms_counted (in_hand v) c.args.items.now c.loop-arm.arm-index a c.loop-arm.to c.in_ok-to.to _ c.loop-arm-test.true c.arm-item.is (omega (arith, one, two, three)) c.loop-arm.invariant.place;
    }

pub branches::put_clauses-loop-clause-preserved : goal.branches::put_clauses-loop-clause-preserved
branches::put_clauses-loop-clause-preserved t c =
    let v = plain_ways c.args.ways in
    let a = c.clause-item.result in
    let k = option_map plain_expr (out-Clause a).kind in
    let n = (out-Clause a).name in
    let s = plain_suite (out-Clause a).body in
    let p = c.loop-clause.to in
    let inside = c.in_ok-places.ensures.inside ∙ ap (λ u. clause_ways n u (clause_begin p k n + suite_size true s + 1)) c.in_ok-inside.ensures in
    let first = c.in_ok-begin.ensures.place in
    let second = c.in_ok-left.ensures.place
    ∙ ap (λ h. c.in_ok-begin.begin + suite_size h s) (ap in_hand inside ∙ clause_hand n v (clause_begin p k n + suite_size true s + 1))
    ∙ ap (λ b. b + suite_size true s) first in
    let third = c.in_ok-to.ensures.place in
    let jump = c.in_ok-places.ensures.next in
    record {
      cells = clauses_added (at_lines c.args.defs.now) v (plain_ways c.in_ok-places.places.inside) p c.in_ok-begin.begin c.in_ok-left.left c.in_ok-to.to c.args.end (out-Suite (out-Clause a).body).first c.in_ok-places.places.next c.args.items.now c.loop-clause.clause-index a _ _ _ _ _ c.loop-clause-test.true c.clause-item.is
          (sym (line_is (out-Clause a).body)) jump inside first second (omega (arith, second, third, jump, clause_next-is p k n s)) c.in_ok-begin.ensures.cells c.in_ok-left.ensures.cells c.in_ok-to.ensures.cells c.loop-clause.invariant.cells;
      place = clauses_counted (in_hand v) c.args.items.now c.loop-clause.clause-index a p c.in_ok-to.to _ c.loop-clause-test.true c.clause-item.is (omega (arith, second, third, clause_counts p (suite_size true s) k n)) c.loop-clause.invariant.place;
    }

pub branches::put_cases-loop-case-preserved : goal.branches::put_cases-loop-case-preserved
branches::put_cases-loop-case-preserved t c =
    let v = plain_ways c.args.ways in
    let a = c.case-item.result in
    let q = plain_pattern (out-Case a).pattern in
    let g = option_map plain_expr (out-Case a).guard in
    let s = plain_suite (out-Case a).body in
    let next = c.in_ok-next.ensures ∙ ap (λ h. case_begin c.loop-case.to q g + suite_size h s + 1) c.in_hand-handled.ensures in
    let one = c.in_ok-begin.ensures.place in
    let two = c.in_ok-jump.ensures.place in
    let three = c.in_ok-to.ensures.place in
    record {
      cells = cases_added (at_lines c.args.defs.now) v c.loop-case.to c.in_ok-begin.begin c.in_ok-to.to c.args.end (out-Suite (out-Case a).body).first c.in_ok-next.next c.args.items.now c.loop-case.case-index a _ _ _ _ _ c.loop-case-test.true c.case-item.is
          (sym (line_is (out-Case a).body)) next one (omega (arith, next, one, two, three)) c.in_ok-begin.ensures.cells c.in_ok-jump.ensures.cells c.in_ok-to.ensures.cells c.loop-case.invariant.cells;
      place = cases_counted (in_hand v) c.args.items.now c.loop-case.case-index a c.loop-case.to c.in_ok-to.to _ c.loop-case-test.true c.case-item.is (omega (arith, one, two, three, case_begin-is c.loop-case.to q g)) c.loop-case.invariant.place;
    }

pub branches::put_arms-returns-clause-cells : goal.branches::put_arms-returns-clause-cells
branches::put_arms-returns-clause-cells t c =
    none_added (λ xs. arms_code (at_lines c.args.defs.now) (plain_ways c.args.ways) c.loop-arm.to c.args.end (plain_arms xs)) refl _ _ _ _ c.loop-arm-test.false c.loop-arm.invariant.cells

pub branches::put_arms-returns-clause-place : goal.branches::put_arms-returns-clause-place
branches::put_arms-returns-clause-place t c = none_counted (λ xs. arms_size (in_hand (plain_ways c.args.ways)) (plain_arms xs)) refl _ _ _ _ c.loop-arm-test.false c.loop-arm.invariant.place

pub branches::put_clauses-returns-clause-cells : goal.branches::put_clauses-returns-clause-cells
branches::put_clauses-returns-clause-cells t c =
    one_added (λ xs. clauses_code (at_lines c.args.defs.now) (plain_ways c.args.ways) c.loop-clause.to c.args.end (plain_clauses xs)) _ refl c.put.result _ _ _ _ _ c.loop-clause-test.false c.put.ensures.cells c.loop-clause.invariant.cells

pub branches::put_clauses-returns-clause-place : goal.branches::put_clauses-returns-clause-place
branches::put_clauses-returns-clause-place t c =
    the_number c.put.result _ _ c.put.ensures.place (one_more (λ xs. clauses_size (in_hand (plain_ways c.args.ways)) (plain_clauses xs)) refl _ _ _ _ c.loop-clause-test.false c.loop-clause.invariant.place)

pub branches::put_cases-returns-clause-cells : goal.branches::put_cases-returns-clause-cells
branches::put_cases-returns-clause-cells t c =
    one_added (λ xs. cases_code (at_lines c.args.defs.now) (plain_ways c.args.ways) c.loop-case.to c.args.end (plain_cases xs)) _ refl c.put-2.result _ _ _ _ _ c.loop-case-test.false c.put-2.ensures.cells c.loop-case.invariant.cells

pub branches::put_cases-returns-clause-place : goal.branches::put_cases-returns-clause-place
branches::put_cases-returns-clause-place t c =
    the_number c.put-2.result _ _ c.put-2.ensures.place (one_more (λ xs. cases_size (in_hand (plain_ways c.args.ways)) (plain_cases xs)) refl _ _ _ _ c.loop-case-test.false c.loop-case.invariant.place)

-- ---- compound statements

pub compound::put_try_body-returns-clause-cells : goal.compound::put_try_body-returns-clause-cells
compound::put_try_body-returns-clause-cells t c =
    let place = c.in_ok-places.ensures in
    and_then _ _ _ _ _ _ c.in_ok-put_suite.ensures.cells c.in_ok-begin.ensures.cells
    (try_body_node (at_lines c.args.defs.now) (plain_ways c.args.ways) c.args.at c.args.line (plain_suite c.args.body.now) (plain_clauses c.args.clauses.now) (plain_opt_suite c.args.orelse.now) (plain_opt_suite c.args.finally.now) c.in_ok-places.places.end c.in_ok-begin.begin (plain_ways c.in_ok-places.places.tried) (plain_ways c.in_ok-places.places.inside)
    place.end place.inside place.tried c.in_ok-begin.ensures.place)

pub compound::put_handlers-returns-clause-cells : goal.compound::put_handlers-returns-clause-cells
compound::put_handlers-returns-clause-cells t c =
    then c.put_clauses.result _ _ _ _ _ _ c.put_clauses.ensures.cells c.in_ok-begin.ensures.cells
    (handlers_node (at_lines c.args.defs.now) (plain_ways c.args.ways) c.args.at c.in_ok-begin.begin c.args.end c.args.items.now (sym c.is_empty.ensures ∙ c.if-is_empty.false) c.in_ok-begin.ensures.place)

pub compound::put_handlers-returns-clause-place : goal.compound::put_handlers-returns-clause-place
compound::put_handlers-returns-clause-place t c =
    let one = c.in_ok-begin.ensures.place in
    let k = handlers_size-is (in_hand (plain_ways c.args.ways)) c.args.items.now (sym c.is_empty.ensures ∙ c.if-is_empty.false) in
    the_number c.put_clauses.result _ _ c.put_clauses.ensures.place (omega (arith, one, k))

pub compound::put_handlers-returns-then-is_empty-clause-cells : goal.compound::put_handlers-returns-then-is_empty-clause-cells
compound::put_handlers-returns-then-is_empty-clause-cells t c =
    sym (append-nil c.args.out.now)
    ∙ ap (λ ys. c.args.out.now ++ ys) (sym (handlers_code-none (at_lines c.args.defs.now) (plain_ways c.args.ways) c.args.at c.args.end c.args.items.now (sym c.is_empty.ensures ∙ c.if-is_empty.true)))

pub compound::put_handlers-returns-then-is_empty-clause-place : goal.compound::put_handlers-returns-then-is_empty-clause-place
compound::put_handlers-returns-then-is_empty-clause-place t c =
    let k = handlers_size-none (in_hand (plain_ways c.args.ways)) c.args.items.now (sym c.is_empty.ensures ∙ c.if-is_empty.true) in omega (arith, k)

pub compound::put_finally_suite-returns-clause-cells : goal.compound::put_finally_suite-returns-clause-cells
compound::put_finally_suite-returns-clause-cells t c =
    let s = plain_suite c.args.s.now in
    let one = c.in_ok-begin.ensures.place in
    let two = c.in_ok-settle.ensures.place ∙ ap (λ v. c.in_ok-begin.begin + suite_size (in_hand v) s) c.in_ok-lower.ensures in
    let last = c.in_ok-exits.ensures.place in
    four c.put_exits.result _ _ _ _ _ _ _ _ _ _ c.in_ok-begin.ensures.cells c.in_ok-settle.ensures.cells c.in_ok-exits.ensures.cells c.put_exits.ensures.cells
    (finally_node (at_lines c.args.defs.now) (plain_ways c.args.ways) (plain_ways c.in_ok-lower.lower) c.args.at c.in_ok-begin.begin c.in_ok-exits.exits s c.in_ok-lower.ensures one (omega (arith, one, two, last)))

pub compound::put_finally_suite-returns-clause-place : goal.compound::put_finally_suite-returns-clause-place
compound::put_finally_suite-returns-clause-place t c =
    let one = c.in_ok-begin.ensures.place in
    let two = c.in_ok-settle.ensures.place ∙ ap (λ v. c.in_ok-begin.begin + suite_size (in_hand v) (plain_suite c.args.s.now)) c.in_ok-lower.ensures in
    let last = c.in_ok-exits.ensures.place in
    the_number c.put_exits.result _ _ c.put_exits.ensures.place (omega (arith, one, two, last))

pub loops::put_while-returns-clause-cells : goal.loops::put_while-returns-clause-cells
loops::put_while-returns-clause-cells t c =
    let place = c.in_ok-places.ensures in
    three c.put.result _ _ _ _ _ _ _ _ c.in_ok-begin.ensures.cells c.in_ok-back.ensures.cells c.put.ensures.cells
    (while_node (at_lines c.args.defs.now) (plain_ways c.args.ways) c.args.at c.args.line (plain_expr c.args.test.now) (plain_suite c.args.body.now) (plain_opt_suite c.args.orelse.now) c.in_ok-places.places.rest c.in_ok-places.places.again c.in_ok-begin.begin (plain_ways c.in_ok-places.places.inside)
    place.rest place.inside place.again c.in_ok-begin.ensures.place)

pub loops::put_while-returns-clause-place : goal.loops::put_while-returns-clause-place
loops::put_while-returns-clause-place t c =
    let one = c.in_ok-begin.ensures.place in
    let two = c.in_ok-back.ensures.place ∙ ap (λ v. c.in_ok-begin.begin + suite_size (in_hand v) (plain_suite c.args.body.now)) c.in_ok-places.ensures.inside in
    the_number c.put.result _ _ c.put.ensures.place (omega (arith, one, two))

pub loops::put_for-returns-clause-cells : goal.loops::put_for-returns-clause-cells
loops::put_for-returns-clause-cells t c =
    let place = c.in_ok-places.ensures in
    let one = c.in_ok-taken.ensures.place in
    let two = c.in_ok-begin.ensures.place in
    four c.put.result _ _ _ _ _ _ _ _ _ _ c.in_ok-taken.ensures.cells c.in_ok-begin.ensures.cells c.in_ok-back.ensures.cells c.put.ensures.cells
    (for_node (at_lines c.args.defs.now) (plain_ways c.args.ways) c.args.at c.args.line (plain_expr c.args.target.now) (plain_expr c.args.over.now) (plain_suite c.args.body.now) (plain_opt_suite c.args.orelse.now) c.in_ok-places.places.rest c.in_ok-places.places.again c.in_ok-taken.taken c.in_ok-begin.begin (plain_ways c.in_ok-places.places.inside)
    place.again place.rest place.inside (omega (arith, one)) (omega (arith, one, two)))

pub loops::put_for-returns-clause-place : goal.loops::put_for-returns-clause-place
loops::put_for-returns-clause-place t c =
    let one = c.in_ok-taken.ensures.place in
    let two = c.in_ok-begin.ensures.place in
    let three = c.in_ok-back.ensures.place ∙ ap (λ v. c.in_ok-begin.begin + suite_size (in_hand v) (plain_suite c.args.body.now)) c.in_ok-places.ensures.inside in
    the_number c.put.result _ _ c.put.ensures.place (omega (arith, one, two, three))

pub branches::put_if-returns-clause-cells : goal.branches::put_if-returns-clause-cells
branches::put_if-returns-clause-cells t c =
    let fs = at_lines c.args.defs.now in
    let w = plain_ways c.args.ways in
    let xs = plain_arms c.args.arms.now in
    let end = c.in_ok-end.ensures ∙ ap (λ h. c.args.at + arms_size h xs + opt_size h (plain_opt_suite c.args.orelse.now)) c.in_hand.ensures in
    kept c.put_arms.result _ _ _ _ (ap (λ n. arms_code fs w c.args.at n xs) (sym end)) c.put_arms.ensures.cells

pub branches::put_match-returns-clause-cells : goal.branches::put_match-returns-clause-cells
branches::put_match-returns-clause-cells t c =
    let e = plain_expr c.args.subject.now in
    let cs = plain_cases c.args.cases.now in
    let end = c.in_ok-end.ensures ∙ ap (λ h. c.args.at + 1 + expr_size e + cases_size h cs) c.in_hand.ensures in
    then c.put_cases.result _ _ _ _ _ _ c.put_cases.ensures.cells c.in_ok-first.ensures.cells
    (match_node (at_lines c.args.defs.now) (plain_ways c.args.ways) c.args.at c.args.line c.in_ok-end.end c.in_ok-first.first e cs end c.in_ok-first.ensures.place)

pub branches::put_match-returns-clause-place : goal.branches::put_match-returns-clause-place
branches::put_match-returns-clause-place t c =
    let one = c.in_ok-first.ensures.place in
    the_number c.put_cases.result _ _ c.put_cases.ensures.place (omega (arith, one))

-- ---- which statement it is

pub statements::put_kind-returns-in-Expr-clause-cells : goal.statements::put_kind-returns-in-Expr-clause-cells
statements::put_kind-returns-in-Expr-clause-cells t c =
    kept c.put_value.result _ _ _ _ (ap (kind_code (at_lines c.args.defs.now) (plain_ways c.args.ways) c.args.at c.args.line) (expr_shown c.args.kind.now c.in-Expr.e c.in-Expr.is)) c.put_value.ensures.cells

pub statements::put_kind-returns-in-Expr-clause-place : goal.statements::put_kind-returns-in-Expr-clause-place
statements::put_kind-returns-in-Expr-clause-place t c =
    the_number c.put_value.result _ _ c.put_value.ensures.place (ap (λ n. c.args.at + n) (sym (ap (kind_size (in_hand (plain_ways c.args.ways))) (expr_shown c.args.kind.now c.in-Expr.e c.in-Expr.is))))

pub statements::put_kind-returns-in-Assign-clause-cells : goal.statements::put_kind-returns-in-Assign-clause-cells
statements::put_kind-returns-in-Assign-clause-cells t c =
    kept c.put_assign.result _ _ _ _ (ap (kind_code (at_lines c.args.defs.now) (plain_ways c.args.ways) c.args.at c.args.line) (assign_shown c.args.kind.now c.in-Assign.targets c.in-Assign.value c.deref.result.now c.in-Assign.is c.deref.ensures.value)) c.put_assign.ensures.cells

pub statements::put_kind-returns-in-Assign-clause-place : goal.statements::put_kind-returns-in-Assign-clause-place
statements::put_kind-returns-in-Assign-clause-place t c =
    the_number c.put_assign.result _ _ c.put_assign.ensures.place (ap (λ n. c.args.at + n) (sym (ap (kind_size (in_hand (plain_ways c.args.ways))) (assign_shown c.args.kind.now c.in-Assign.targets c.in-Assign.value c.deref.result.now c.in-Assign.is c.deref.ensures.value))))

pub statements::put_kind-returns-in-AugAssign-clause-cells : goal.statements::put_kind-returns-in-AugAssign-clause-cells
statements::put_kind-returns-in-AugAssign-clause-cells t c =
    kept c.put_aug_assign.result _ _ _ _ (ap (kind_code (at_lines c.args.defs.now) (plain_ways c.args.ways) c.args.at c.args.line) (aug_assign_shown c.args.kind.now c.in-AugAssign.place c.in-AugAssign.op c.in-AugAssign.value c.in-AugAssign.is)) c.put_aug_assign.ensures.cells

pub statements::put_kind-returns-in-AugAssign-clause-place : goal.statements::put_kind-returns-in-AugAssign-clause-place
statements::put_kind-returns-in-AugAssign-clause-place t c =
    the_number c.put_aug_assign.result _ _ c.put_aug_assign.ensures.place (ap (λ n. c.args.at + n) (sym (ap (kind_size (in_hand (plain_ways c.args.ways))) (aug_assign_shown c.args.kind.now c.in-AugAssign.place c.in-AugAssign.op c.in-AugAssign.value c.in-AugAssign.is))))

pub statements::put_kind-returns-in-Pass-clause-cells : goal.statements::put_kind-returns-in-Pass-clause-cells
statements::put_kind-returns-in-Pass-clause-cells t c =
    kept c.put.result _ _ _ _ (ap (kind_code (at_lines c.args.defs.now) (plain_ways c.args.ways) c.args.at c.args.line) (pass_shown c.args.kind.now c.in-Pass.is)) c.put.ensures.cells

pub statements::put_kind-returns-in-Pass-clause-place : goal.statements::put_kind-returns-in-Pass-clause-place
statements::put_kind-returns-in-Pass-clause-place t c =
    the_number c.put.result _ _ c.put.ensures.place (ap (λ n. c.args.at + n) (sym (ap (kind_size (in_hand (plain_ways c.args.ways))) (pass_shown c.args.kind.now c.in-Pass.is))))

pub statements::put_kind-returns-in-Break-clause-cells : goal.statements::put_kind-returns-in-Break-clause-cells
statements::put_kind-returns-in-Break-clause-cells t c =
    kept c.put_break.result _ _ _ _ (ap (kind_code (at_lines c.args.defs.now) (plain_ways c.args.ways) c.args.at c.args.line) (break_shown c.args.kind.now c.in-Break.is)) c.put_break.ensures.cells

pub statements::put_kind-returns-in-Break-clause-place : goal.statements::put_kind-returns-in-Break-clause-place
statements::put_kind-returns-in-Break-clause-place t c =
    the_number c.put_break.result _ _ c.put_break.ensures.place (ap (λ n. c.args.at + n) (sym (ap (kind_size (in_hand (plain_ways c.args.ways))) (break_shown c.args.kind.now c.in-Break.is))))

pub statements::put_kind-returns-in-Continue-clause-cells : goal.statements::put_kind-returns-in-Continue-clause-cells
statements::put_kind-returns-in-Continue-clause-cells t c =
    kept c.put_continue.result _ _ _ _ (ap (kind_code (at_lines c.args.defs.now) (plain_ways c.args.ways) c.args.at c.args.line) (continue_shown c.args.kind.now c.in-Continue.is)) c.put_continue.ensures.cells

pub statements::put_kind-returns-in-Continue-clause-place : goal.statements::put_kind-returns-in-Continue-clause-place
statements::put_kind-returns-in-Continue-clause-place t c =
    the_number c.put_continue.result _ _ c.put_continue.ensures.place (ap (λ n. c.args.at + n) (sym (ap (kind_size (in_hand (plain_ways c.args.ways))) (continue_shown c.args.kind.now c.in-Continue.is))))

pub statements::put_kind-returns-in-Return-clause-cells : goal.statements::put_kind-returns-in-Return-clause-cells
statements::put_kind-returns-in-Return-clause-cells t c =
    kept c.put_return.result _ _ _ _ (ap (kind_code (at_lines c.args.defs.now) (plain_ways c.args.ways) c.args.at c.args.line) (return_shown c.args.kind.now c.in-Return.e c.in-Return.is)) c.put_return.ensures.cells

pub statements::put_kind-returns-in-Return-clause-place : goal.statements::put_kind-returns-in-Return-clause-place
statements::put_kind-returns-in-Return-clause-place t c =
    the_number c.put_return.result _ _ c.put_return.ensures.place (ap (λ n. c.args.at + n) (sym (ap (kind_size (in_hand (plain_ways c.args.ways))) (return_shown c.args.kind.now c.in-Return.e c.in-Return.is))))

pub statements::put_kind-returns-in-Raise-clause-cells : goal.statements::put_kind-returns-in-Raise-clause-cells
statements::put_kind-returns-in-Raise-clause-cells t c =
    kept c.put_raise.result _ _ _ _ (ap (kind_code (at_lines c.args.defs.now) (plain_ways c.args.ways) c.args.at c.args.line) (raise_shown c.args.kind.now c.in-Raise.e c.in-Raise.is)) c.put_raise.ensures.cells

pub statements::put_kind-returns-in-Raise-clause-place : goal.statements::put_kind-returns-in-Raise-clause-place
statements::put_kind-returns-in-Raise-clause-place t c =
    the_number c.put_raise.result _ _ c.put_raise.ensures.place (ap (λ n. c.args.at + n) (sym (ap (kind_size (in_hand (plain_ways c.args.ways))) (raise_shown c.args.kind.now c.in-Raise.e c.in-Raise.is))))

pub statements::put_kind-returns-in-Assert-clause-cells : goal.statements::put_kind-returns-in-Assert-clause-cells
statements::put_kind-returns-in-Assert-clause-cells t c =
    kept c.put_assert.result _ _ _ _ (ap (kind_code (at_lines c.args.defs.now) (plain_ways c.args.ways) c.args.at c.args.line) (assert_shown c.args.kind.now c.in-Assert.test c.in-Assert.why c.in-Assert.is)) c.put_assert.ensures.cells

pub statements::put_kind-returns-in-Assert-clause-place : goal.statements::put_kind-returns-in-Assert-clause-place
statements::put_kind-returns-in-Assert-clause-place t c =
    the_number c.put_assert.result _ _ c.put_assert.ensures.place (ap (λ n. c.args.at + n) (sym (ap (kind_size (in_hand (plain_ways c.args.ways))) (assert_shown c.args.kind.now c.in-Assert.test c.in-Assert.why c.in-Assert.is))))

pub statements::put_kind-returns-in-Import-clause-cells : goal.statements::put_kind-returns-in-Import-clause-cells
statements::put_kind-returns-in-Import-clause-cells t c =
    kept c.put_import.result _ _ _ _ (ap (kind_code (at_lines c.args.defs.now) (plain_ways c.args.ways) c.args.at c.args.line) (import_shown c.args.kind.now c.in-Import.names c.deref-in-Import.result.now c.in-Import.is c.deref-in-Import.ensures.value)) c.put_import.ensures.cells

pub statements::put_kind-returns-in-Import-clause-place : goal.statements::put_kind-returns-in-Import-clause-place
statements::put_kind-returns-in-Import-clause-place t c =
    the_number c.put_import.result _ _ c.put_import.ensures.place (ap (λ n. c.args.at + n) (sym (ap (kind_size (in_hand (plain_ways c.args.ways))) (import_shown c.args.kind.now c.in-Import.names c.deref-in-Import.result.now c.in-Import.is c.deref-in-Import.ensures.value))))

pub statements::put_kind-returns-in-From-clause-cells : goal.statements::put_kind-returns-in-From-clause-cells
statements::put_kind-returns-in-From-clause-cells t c =
    kept c.put_from.result _ _ _ _ (ap (kind_code (at_lines c.args.defs.now) (plain_ways c.args.ways) c.args.at c.args.line) (from_shown c.args.kind.now c.in-From.of c.in-From.names c.deref-in-From.result.now c.in-From.is c.deref-in-From.ensures.value)) c.put_from.ensures.cells

pub statements::put_kind-returns-in-From-clause-place : goal.statements::put_kind-returns-in-From-clause-place
statements::put_kind-returns-in-From-clause-place t c =
    the_number c.put_from.result _ _ c.put_from.ensures.place (ap (λ n. c.args.at + n) (sym (ap (kind_size (in_hand (plain_ways c.args.ways))) (from_shown c.args.kind.now c.in-From.of c.in-From.names c.deref-in-From.result.now c.in-From.is c.deref-in-From.ensures.value))))

pub statements::put_kind-returns-in-Def-clause-cells : goal.statements::put_kind-returns-in-Def-clause-cells
statements::put_kind-returns-in-Def-clause-cells t c =
    kept c.put_def.result _ _ _ _ (ap (kind_code (at_lines c.args.defs.now) (plain_ways c.args.ways) c.args.at c.args.line) (def_shown c.args.kind.now c.in-Def.name c.in-Def.params c.in-Def.defaults c.in-Def.comma c.in-Def.body c.deref-in-Def.result.now c.in-Def.is c.deref-in-Def.ensures.value)) c.put_def.ensures.cells

pub statements::put_kind-returns-in-Def-clause-place : goal.statements::put_kind-returns-in-Def-clause-place
statements::put_kind-returns-in-Def-clause-place t c =
    the_number c.put_def.result _ _ c.put_def.ensures.place (ap (λ n. c.args.at + n) (sym (ap (kind_size (in_hand (plain_ways c.args.ways))) (def_shown c.args.kind.now c.in-Def.name c.in-Def.params c.in-Def.defaults c.in-Def.comma c.in-Def.body c.deref-in-Def.result.now c.in-Def.is c.deref-in-Def.ensures.value))))

pub statements::put_kind-returns-in_ok-next-in-If-clause-cells : goal.statements::put_kind-returns-in_ok-next-in-If-clause-cells
statements::put_kind-returns-in_ok-next-in-If-clause-cells t c =
    let w = plain_ways c.args.ways in
    let xs = plain_arms c.deref-in-If.result.now in
    let o = plain_opt_suite c.in-If.orelse in
    then c.put_opt.result _ _ _ _ _ _ c.put_opt.ensures.cells c.in_ok-next-in-If.ensures.cells
    (ap (kind_code (at_lines c.args.defs.now) w c.args.at c.args.line) (if_shown c.args.kind.now c.in-If.arms c.in-If.orelse c.deref-in-If.result.now c.in-If.is c.deref-in-If.ensures.value) ∙ if_whole (at_lines c.args.defs.now) w c.args.at c.args.line xs o c.in_ok-next-in-If.next c.in_ok-next-in-If.ensures.place)

pub statements::put_kind-returns-in_ok-next-in-If-clause-place : goal.statements::put_kind-returns-in_ok-next-in-If-clause-place
statements::put_kind-returns-in_ok-next-in-If-clause-place t c =
    let h = in_hand (plain_ways c.args.ways) in
    let one = c.in_ok-next-in-If.ensures.place in
    let k = ap (kind_size h) (if_shown c.args.kind.now c.in-If.arms c.in-If.orelse c.deref-in-If.result.now c.in-If.is c.deref-in-If.ensures.value) in
    the_number c.put_opt.result _ _ c.put_opt.ensures.place (omega (arith, one, k))

pub statements::put_kind-returns-in_ok-rest-in-While-clause-cells : goal.statements::put_kind-returns-in_ok-rest-in-While-clause-cells
statements::put_kind-returns-in_ok-rest-in-While-clause-cells t c =
    let w = plain_ways c.args.ways in
    let e = plain_expr c.in-While.test in
    let s = plain_suite c.in-While.body in
    let o = plain_opt_suite c.in-While.orelse in
    then c.put_opt-in-While.result _ _ _ _ _ _ c.put_opt-in-While.ensures.cells c.in_ok-rest-in-While.ensures.cells
    (ap (kind_code (at_lines c.args.defs.now) w c.args.at c.args.line) (while_shown c.args.kind.now c.in-While.test c.in-While.body c.in-While.orelse c.in-While.is) ∙ while_whole (at_lines c.args.defs.now) w c.args.at c.args.line e s o c.in_ok-rest-in-While.rest c.in_ok-rest-in-While.ensures.place)

pub statements::put_kind-returns-in_ok-rest-in-While-clause-place : goal.statements::put_kind-returns-in_ok-rest-in-While-clause-place
statements::put_kind-returns-in_ok-rest-in-While-clause-place t c =
    let h = in_hand (plain_ways c.args.ways) in
    let k = ap (kind_size h) (while_shown c.args.kind.now c.in-While.test c.in-While.body c.in-While.orelse c.in-While.is)
    ∙ while_size h (plain_expr c.in-While.test) (plain_suite c.in-While.body) (plain_opt_suite c.in-While.orelse) in
    let one = c.in_ok-rest-in-While.ensures.place in
    the_number c.put_opt-in-While.result _ _ c.put_opt-in-While.ensures.place (omega (arith, one, k))

pub statements::put_kind-returns-in_ok-rest-in-For-clause-cells : goal.statements::put_kind-returns-in_ok-rest-in-For-clause-cells
statements::put_kind-returns-in_ok-rest-in-For-clause-cells t c =
    let w = plain_ways c.args.ways in
    let x = plain_expr c.in-For.target in
    let e = plain_expr c.in-For.over in
    let s = plain_suite c.in-For.body in
    let o = plain_opt_suite c.in-For.orelse in
    then c.put_opt-in-For.result _ _ _ _ _ _ c.put_opt-in-For.ensures.cells c.in_ok-rest-in-For.ensures.cells
    (ap (kind_code (at_lines c.args.defs.now) w c.args.at c.args.line) (for_shown c.args.kind.now c.in-For.target c.in-For.over c.in-For.body c.in-For.orelse c.in-For.is) ∙ for_whole (at_lines c.args.defs.now) w c.args.at c.args.line x e s o c.in_ok-rest-in-For.rest c.in_ok-rest-in-For.ensures.place)

pub statements::put_kind-returns-in_ok-rest-in-For-clause-place : goal.statements::put_kind-returns-in_ok-rest-in-For-clause-place
statements::put_kind-returns-in_ok-rest-in-For-clause-place t c =
    let h = in_hand (plain_ways c.args.ways) in
    let k = ap (kind_size h) (for_shown c.args.kind.now c.in-For.target c.in-For.over c.in-For.body c.in-For.orelse c.in-For.is)
    ∙ for_size h (plain_expr c.in-For.target) (plain_expr c.in-For.over) (plain_suite c.in-For.body) (plain_opt_suite c.in-For.orelse) in
    let one = c.in_ok-rest-in-For.ensures.place in
    the_number c.put_opt-in-For.result _ _ c.put_opt-in-For.ensures.place (omega (arith, one, k))

pub statements::put_kind-returns-in_ok-end-in-Try-clause-cells : goal.statements::put_kind-returns-in_ok-end-in-Try-clause-cells
statements::put_kind-returns-in_ok-end-in-Try-clause-cells t c =
    let fs = at_lines c.args.defs.now in
    let w = plain_ways c.args.ways in
    let h = in_hand w in
    let s = plain_suite c.in-Try.body in
    let cs = plain_clauses c.deref-in-Try-2.result.now in
    let same = ap plain_clauses (c.deref-in-Try.ensures.value ∙ sym c.deref-in-Try-2.ensures.value) in
    let o = plain_opt_suite c.in-Try.orelse in
    let fin = plain_opt_suite c.in-Try.finally in
    let place = c.in_ok-tried-in-Try.ensures in
    let hand = ap in_hand place.inside ∙ finally_hand fin w (c.in_ok-tried-in-Try.tried.end + 1) in
    let one = place.normal in
    let two = c.in_ok-jump-in-Try.ensures.place ∙ ap (λ b. c.in_ok-tried-in-Try.tried.normal + opt_size b o) hand in
    let last = c.in_ok-end-in-Try.ensures.place ∙ ap (λ b. c.in_ok-jump-in-Try.jump + handlers_size b cs) hand in
    let end = place.end ∙ ap (λ ys. try_end h c.args.at s ys o) same in
    four c.put_finally.result _ _ _ _ _ _ _ _ _ _ (place.cells ∙ ap (λ ys. c.args.out.now ++ try_body fs w c.args.at c.args.line s ys o fin) same) c.in_ok-jump-in-Try.ensures.cells c.in_ok-end-in-Try.ensures.cells c.put_finally.ensures.cells
    (ap (kind_code fs w c.args.at c.args.line) (try_shown c.args.kind.now c.in-Try.body c.in-Try.clauses c.in-Try.orelse c.in-Try.finally c.deref-in-Try-2.result.now c.in-Try.is c.deref-in-Try-2.ensures.value)
    ∙ try_whole fs w c.args.at c.args.line s cs o fin c.in_ok-tried-in-Try.tried.end c.in_ok-tried-in-Try.tried.normal c.in_ok-jump-in-Try.jump c.in_ok-end-in-Try.end (plain_ways c.in_ok-tried-in-Try.tried.inside)
    end place.inside one (omega (arith, one, two)) (omega (arith, one, two, last, end, try_end-size h c.args.at s cs o)))

pub statements::put_kind-returns-in_ok-end-in-Try-clause-place : goal.statements::put_kind-returns-in_ok-end-in-Try-clause-place
statements::put_kind-returns-in_ok-end-in-Try-clause-place t c =
    let w = plain_ways c.args.ways in
    let h = in_hand w in
    let s = plain_suite c.in-Try.body in
    let cs = plain_clauses c.deref-in-Try-2.result.now in
    let o = plain_opt_suite c.in-Try.orelse in
    let fin = plain_opt_suite c.in-Try.finally in
    let place = c.in_ok-tried-in-Try.ensures in
    let hand = ap in_hand place.inside ∙ finally_hand fin w (c.in_ok-tried-in-Try.tried.end + 1) in
    let one = place.normal in
    let two = c.in_ok-jump-in-Try.ensures.place ∙ ap (λ b. c.in_ok-tried-in-Try.tried.normal + opt_size b o) hand in
    let last = c.in_ok-end-in-Try.ensures.place ∙ ap (λ b. c.in_ok-jump-in-Try.jump + handlers_size b cs) hand in
    let k = ap (kind_size h) (try_shown c.args.kind.now c.in-Try.body c.in-Try.clauses c.in-Try.orelse c.in-Try.finally c.deref-in-Try-2.result.now c.in-Try.is c.deref-in-Try-2.ensures.value) ∙ try_size h s cs o fin in
    the_number c.put_finally.result _ _ c.put_finally.ensures.place (omega (arith, one, two, last, k))

pub statements::put_kind-returns-in-Match-clause-cells : goal.statements::put_kind-returns-in-Match-clause-cells
statements::put_kind-returns-in-Match-clause-cells t c =
    kept c.put_match.result _ _ _ _
    (ap (kind_code (at_lines c.args.defs.now) (plain_ways c.args.ways) c.args.at c.args.line) (match_shown c.args.kind.now c.in-Match.subject c.in-Match.header_last c.in-Match.cases c.deref-in-Match.result.now c.in-Match.is c.deref-in-Match.ensures.value)) c.put_match.ensures.cells

pub statements::put_kind-returns-in-Match-clause-place : goal.statements::put_kind-returns-in-Match-clause-place
statements::put_kind-returns-in-Match-clause-place t c =
    let h = in_hand (plain_ways c.args.ways) in
    let e = plain_expr c.in-Match.subject in
    let cs = plain_cases c.deref-in-Match.result.now in
    let k : kind_size h (plain_kind c.args.kind.now) ≡ 1 + expr_size e + cases_size h cs = ap (kind_size h) (match_shown c.args.kind.now c.in-Match.subject c.in-Match.header_last c.in-Match.cases c.deref-in-Match.result.now c.in-Match.is c.deref-in-Match.ensures.value) in
    the_number c.put_match.result _ _ c.put_match.ensures.place (omega (arith, k))
