use Rattle.std.proofs.Common.{◌≡◌, ◌+◌, ◌++◌, true, false, [], ◌∷◌, drop, ap, sym, subst, ◌∙◌}
use Rattle.std.specs.Prelude.{not, ◌||◌, ◌&&◌}
use Rattle.py_syntax.specs.declared.stmt.Stmt.{out-Stmt}
use Rattle.py_syntax.specs.FirstMarks.{only, stmts_first, stmts_empty, opt_first, opt_empty, arms_first, arms_empty, clauses_first, cases_first}
use Rattle.py_syntax.specs.LastMarks.{is_onward, may_raise, onward_only, comes, has_clause, has_case, stmts_last, kind_last, opt_last, arms_last, clauses_last, cases_last, finally_last}
use Rattle.py_syntax.specs.View.{plain_expr, plain_stmts, plain_kind, plain_suite, plain_opt_suite, plain_arms, plain_clauses, plain_cases}
use Rattle.cov_predict.specs.Leaving.{IsFirst, list_of, targets_of}
use Rattle.cov_predict.specs.Steps.{FirstIn}
use Rattle.cov_predict.specs.Parts.{turns_last}
use Rattle.cov_predict.specs.Walk.{suite_walk, clauses_walk}
use Rattle.cov_predict.proofs.Gathering.{said, then, tail-is, the_drop}
use Rattle.cov_predict.proofs.Left.{first-empty, first-there, comes-mark, three_ways, ended_ways, next_ways}
use Rattle.cov_predict.proofs.Compounds.{the-if, if-arcs, if-left, the-while, the-for, loop-arcs, loop-left, while-walk, while-last, for-walk, for-last, the-try, came-left, try-arcs, try-left, match-is}
use Rattle.cov_predict.proofs.Rows.{walk-turn, last-turn, no-rows, empty-suite, headed-left, turns-left, ended-left, arm-turn, arm-left, clause-turn, clause-left, case-turn, case-left, no-arms, no-clauses, no-cases, left-so, some-walk, some-last, none-last}
use Rattle.cov_predict.proofs.+walk.Goals as goal

pub branches::headed-returns-clause-ways : goal.branches::headed-returns-clause-ways
branches::headed-returns-clause-ways t c =
    headed-left c.args.rules.any (plain_suite c.args.suite.now) c.args.leaves c.is_none-empty.result c.either.result c.in_ok-taken.taken c.raising.result c.onward-ends.result c.or.result c.or-2.result
    (empty-suite c.args.suite.now c.deref.result.now c.first_of.result c.is_none-empty.result c.deref.ensures.value c.first_of.ensures c.is_none-empty.ensures)
    c.either.ensures c.in_ok-taken.ensures.ways c.raising.ensures c.onward-ends.ensures c.or.ensures c.or-2.ensures

pub branches::matched-returns-clause-ways : goal.branches::matched-returns-clause-ways
branches::matched-returns-clause-ways t c =
    let cs = plain_cases c.args.cases.now in
    three_ways c.args.rules.any c.args.line c.is_none.result (only (not (has_case cs)) (c.args.line ∷ [])) (λ w. cases_last c.args.rules.any w cs) c.in_ok-taken.taken c.raising.result c.onward.result c.or.result c.or-2.result
    (first-empty c.next_case-next.result (cases_first cs) (not (has_case cs)) c.next_case-next.ensures c.is_none.result c.is_none.ensures ∙ sym (comes-mark (not (has_case cs)) c.args.line))
    c.in_ok-taken.ensures.ways c.raising.ensures c.onward.ensures c.or.ensures c.or-2.ensures

pub branches::tests-loop-arm-preserved : goal.branches::tests-loop-arm-preserved
branches::tests-loop-arm-preserved t c =
    let xs = c.args.arms.now in
    let i = c.loop-arm.arm-index in
    let next : c.loop-arm.passed + 1 ≡ c.loop-arm.arm-index + 1 = ap (λ z. z + 1) c.loop-arm.invariant.passed in
    record {
      arcs = λ ms e h.
          arm-turn c.args.rules.any (targets_of c.args.jumps) c.loop-arm.out.items c.headed.new.out.items _ xs i c.arm-item.result ms e (list_of c.entering-after.result) c.loop-arm-test.true c.arm-item.is
          (c.entering-after.ensures (arms_first (plain_arms (drop (i + 1) xs)) ms) (arms_empty (plain_arms (drop (i + 1) xs)) e)
          (c.or_else-next.ensures (plain_arms (drop (i + 1) xs)) ms e (subst (λ z. IsFirst c.next_test.result (arms_first (plain_arms z) []) (arms_empty (plain_arms z) true)) (tail-is xs (c.loop-arm.passed + 1) (i + 1) next) c.next_test.ensures) h))
          c.in_ok-by.ensures.arcs (c.loop-arm.invariant.arcs ms e h);
      ways = λ ms e h w.
          arm-left c.args.rules.any c.loop-arm.left c.in_ok-by.by c.or-left.result xs i c.arm-item.result e c.is_none.result c.loop-arm-test.true c.arm-item.is
          (first-empty c.or_else-next.result (arms_first (plain_arms (drop (i + 1) xs)) ms) (arms_empty (plain_arms (drop (i + 1) xs)) e)
          (c.or_else-next.ensures (plain_arms (drop (i + 1) xs)) ms e (subst (λ z. IsFirst c.next_test.result (arms_first (plain_arms z) []) (arms_empty (plain_arms z) true)) (tail-is xs (c.loop-arm.passed + 1) (i + 1) next) c.next_test.ensures) h)
          c.is_none.result c.is_none.ensures)
          c.in_ok-by.ensures.ways c.or-left.ensures w _ (c.loop-arm.invariant.ways ms e h w);
      passed = next;
    }

pub branches::tests-returns-clause-ways : goal.branches::tests-returns-clause-ways
branches::tests-returns-clause-ways t c = λ ms e h.
    ended_ways (λ w xs. arms_last c.args.rules.any w (plain_arms xs) [] e) (λ w. no-arms c.args.rules.any w e) c.loop-arm.left c.args.arms.now c.loop-arm.arm-index c.loop-arm-test.false (c.loop-arm.invariant.ways ms e h)

pub branches::alternatives-loop-case-preserved : goal.branches::alternatives-loop-case-preserved
branches::alternatives-loop-case-preserved t c =
    let xs = c.args.cases.now in
    let i = c.loop-case.case-index in
    let next : c.loop-case.passed + 1 ≡ c.loop-case.case-index + 1 = ap (λ z. z + 1) c.loop-case.invariant.passed in
    let first : IsFirst c.next_case-next.result (cases_first (plain_cases (drop (i + 1) xs))) (not (has_case (plain_cases (drop (i + 1) xs)))) =
    subst (λ z. IsFirst c.next_case-next.result (cases_first (plain_cases z)) (not (has_case (plain_cases z)))) (tail-is xs (c.loop-case.passed + 1) (i + 1) next) c.next_case-next.ensures in
    record {
      arcs = case-turn c.args.rules.any (targets_of c.args.jumps) c.loop-case.out.items c.headed.new.out.items _ xs i c.case-item.result c.is_sure-sure.result (list_of c.entering-after.result) c.loop-case-test.true c.case-item.is c.is_sure-sure.ensures
          (c.entering-after.ensures (cases_first (plain_cases (drop (i + 1) xs))) (not (has_case (plain_cases (drop (i + 1) xs)))) first)
          c.in_ok-by.ensures.arcs c.loop-case.invariant.arcs;
      ways = λ w. case-left c.args.rules.any c.loop-case.left c.in_ok-by.by c.or-left.result xs i c.case-item.result c.is_sure-sure.result c.is_none.result c.both-leaves.result c.loop-case-test.true c.case-item.is c.is_sure-sure.ensures
          (first-empty c.next_case-next.result (cases_first (plain_cases (drop (i + 1) xs))) (not (has_case (plain_cases (drop (i + 1) xs)))) first c.is_none.result c.is_none.ensures)
          c.both-leaves.ensures c.in_ok-by.ensures.ways c.or-left.ensures w _ (c.loop-case.invariant.ways w);
      passed = next;
    }

pub branches::alternatives-returns-clause-ways : goal.branches::alternatives-returns-clause-ways
branches::alternatives-returns-clause-ways t c =
    ended_ways (λ w xs. cases_last c.args.rules.any w (plain_cases xs)) (λ w. no-cases c.args.rules.any w) c.loop-case.left c.args.cases.now c.loop-case.case-index c.loop-case-test.false c.loop-case.invariant.ways

pub handlers::handlers-loop-clause-preserved : goal.handlers::handlers-loop-clause-preserved
handlers::handlers-loop-clause-preserved t c =
    let xs = c.args.clauses.now in
    let i = c.loop-clause.clause-index in
    let next : c.loop-clause.passed + 1 ≡ c.loop-clause.clause-index + 1 = ap (λ z. z + 1) c.loop-clause.invariant.passed in
    let first : IsFirst c.next_clause.result (clauses_first (plain_clauses (drop (i + 1) xs))) (not (has_clause (plain_clauses (drop (i + 1) xs)))) =
    subst (λ z. IsFirst c.next_clause.result (clauses_first (plain_clauses z)) (not (has_clause (plain_clauses z)))) (tail-is xs (c.loop-clause.passed + 1) (i + 1) next) c.next_clause.ensures in
    record {
      arcs = clause-turn c.args.rules.any (targets_of c.args.jumps) c.loop-clause.out.items c.headed.new.out.items _ xs i c.clause-item.result c.is_none-bare.result (list_of c.entering-after.result) c.loop-clause-test.true c.clause-item.is c.is_none-bare.ensures
          (c.entering-after.ensures (clauses_first (plain_clauses (drop (i + 1) xs))) (not (has_clause (plain_clauses (drop (i + 1) xs)))) first)
          c.in_ok-by.ensures.arcs c.loop-clause.invariant.arcs;
      ways = λ w. clause-left c.args.rules.any c.loop-clause.left c.in_ok-by.by c.or-left.result xs i c.clause-item.result c.loop-clause-test.true c.clause-item.is c.in_ok-by.ensures.ways c.or-left.ensures w _ (c.loop-clause.invariant.ways w);
      passed = next;
    }

pub handlers::handlers-returns-clause-ways : goal.handlers::handlers-returns-clause-ways
handlers::handlers-returns-clause-ways t c =
    ended_ways (λ w xs. clauses_last c.args.rules.any w (plain_clauses xs)) (λ w. no-clauses c.args.rules.any w) c.loop-clause.left c.args.clauses.now c.loop-clause.clause-index c.loop-clause-test.false c.loop-clause.invariant.ways

pub handlers::attempt-returns-clause-arcs : goal.handlers::attempt-returns-clause-arcs
handlers::attempt-returns-clause-arcs t c =
    c.in_ok-left.ensures.arcs
    ∙ ap (λ z. c.args.out.now.items ++ suite_walk c.args.rules.any (targets_of c.args.jumps) z c.args.line (plain_suite c.args.body.now))
    (c.in_try-within.ensures (plain_clauses c.args.clauses.now) (plain_opt_suite c.args.orelse.now) c.next_clause-clause.ensures c.first_in-next.ensures)

pub handlers::attempt-returns-clause-ways : goal.handlers::attempt-returns-clause-ways
handlers::attempt-returns-clause-ways t c =
    let cs = plain_clauses c.args.clauses.now in
    let o = plain_opt_suite c.args.orelse.now in
    ended-left c.args.rules.any c.args.line (plain_suite c.args.body.now) cs o c.is_none-empty.result c.is_some.result c.is_none.result c.in_ok-left.left c.past_try.result
    (empty-suite c.args.body.now c.deref.result.now c.first_of.result c.is_none-empty.result c.deref.ensures.value c.first_of.ensures c.is_none-empty.ensures)
    (first-there c.next_clause-clause.result (clauses_first cs) (has_clause cs) c.next_clause-clause.ensures c.is_some.result c.is_some.ensures)
    (first-empty c.first_in-next.result (opt_first o) (opt_empty o) c.first_in-next.ensures c.is_none.result c.is_none.ensures)
    c.in_ok-left.ensures.ways c.past_try.ensures

pub handlers::finish-returns-clause-ways : goal.handlers::finish-returns-clause-ways
handlers::finish-returns-clause-ways t c = λ l f h.
    c.or.ensures (λ w. may_raise c.args.rules.any w l) (λ w. finally_last c.args.rules.any w (plain_opt_suite c.args.finally.now) (f w)) (c.raising.ensures l) (c.past_finally.ensures c.args.rules.any f h c.in_ok-left.ensures.ways)

pub loops::turns-returns-clause-ways : goal.loops::turns-returns-clause-ways
loops::turns-returns-clause-ways t c =
    turns-left c.args.rules.any c.args.line (plain_suite c.args.body.now) c.in_ok-left.left c.raising.result c.past_loop.result c.or.result c.in_ok-left.ensures.ways c.raising.ensures c.past_loop.ensures c.or.ensures

pub walk::optional-returns-in-None-clause-ways : goal.walk::optional-returns-in-None-clause-ways
walk::optional-returns-in-None-clause-ways t c = λ w. c.none.ensures w ∙ ap comes (none-last c.args.rules.any w c.args.suite.now c.in-None.is)

pub walk::optional-returns-in-Some-clause-arcs : goal.walk::optional-returns-in-Some-clause-arcs
walk::optional-returns-in-Some-clause-arcs t c =
    said c.statements.result _ _ _ _ (some-walk c.args.rules.any (targets_of c.args.jumps) c.args.suite.now c.in-Some.suite c.deref.result.now c.in-Some.is c.deref.ensures.value) c.statements.ensures.arcs

pub walk::optional-returns-in-Some-clause-ways : goal.walk::optional-returns-in-Some-clause-ways
walk::optional-returns-in-Some-clause-ways t c =
    left-so c.statements.result _ _ (λ w. some-last c.args.rules.any w c.args.suite.now c.in-Some.suite c.deref.result.now c.in-Some.is c.deref.ensures.value) c.statements.ensures.ways

pub walk::statements-loop-s-preserved : goal.walk::statements-loop-s-preserved
walk::statements-loop-s-preserved t c =
    let any = c.args.rules.any in
    let xs = c.args.items.now in
    let i = c.loop-s.s-index in
    let s = c.s-item.result in
    let next : c.loop-s.passed + 1 ≡ c.loop-s.s-index + 1 = ap (λ z. z + 1) c.loop-s.invariant.passed in
    let rest = plain_stmts (drop (i + 1) xs) in
    let first : FirstIn (drop (i + 1) xs) c.first_after-next.result =
    subst (λ z. FirstIn (s ∷ z) c.loop-s.next → FirstIn z c.first_after-next.result) (tail-is xs (c.loop-s.passed + 1) (i + 1) next) c.first_after-next.ensures
    (subst (λ z. FirstIn z c.loop-s.next) (the_drop xs i s c.loop-s-test.true c.s-item.is) c.loop-s.invariant.next) in
    record {
      arcs = walk-turn any (targets_of c.args.jumps) (targets_of c.ahead.result) c.loop-s.out.items c.statement.new.out.items _ xs i s c.loop-s-test.true c.s-item.is
          (c.ahead.ensures (stmts_first rest) (stmts_empty rest) first) c.in_ok-by.ensures.arcs c.loop-s.invariant.arcs;
      ways = λ w.
          next_ways c.loop-s.left c.before-in-loop-s.result c.or-left.result (λ w. only (not (is_onward w) || stmts_empty rest) (kind_last any w (out-Stmt s).first (plain_kind (out-Stmt s).kind))) c.or-left.ensures
          (λ v. c.before-in-loop-s.ensures (λ w. kind_last any w (out-Stmt s).first (plain_kind (out-Stmt s).kind)) c.in_ok-by.ensures.ways v
          ∙ ap (λ z. comes (only (not (is_onward v) || z) (kind_last any v (out-Stmt s).first (plain_kind (out-Stmt s).kind)))) (first-empty c.first_after-next.result (stmts_first rest) (stmts_empty rest) first c.is_none.result c.is_none.ensures))
          w (comes (stmts_last any w (plain_stmts (drop i xs)))) (comes (stmts_last any w rest)) _ (last-turn any w xs i s c.loop-s-test.true c.s-item.is) (c.loop-s.invariant.ways w);
      passed = next;
      next = first;
    }

pub walk::statements-returns-clause-ways : goal.walk::statements-returns-clause-ways
walk::statements-returns-clause-ways t c =
    ended_ways (λ w xs. stmts_last c.args.rules.any w (plain_stmts xs)) (λ w. no-rows c.args.rules.any w) c.loop-s.left c.args.items.now c.loop-s.s-index c.loop-s-test.false c.loop-s.invariant.ways

pub walk::with_else-returns-clause-ways : goal.walk::with_else-returns-clause-ways
walk::with_else-returns-clause-ways t c = λ f h. c.or.ensures f (λ w. opt_last c.args.rules.any w (plain_opt_suite c.args.orelse.now)) h c.in_ok-others.ensures.ways

pub loops::looped-returns-clause-arcs : goal.loops::looped-returns-clause-arcs
loops::looped-returns-clause-arcs t c =
    then c.args.out.now.items c.turns.new.out.items c.ends.new.out.items _ _ c.in_ok-turns.ensures.arcs (c.in_ok-ends.ensures.arcs (plain_opt_suite c.args.orelse.now) c.first_in.ensures)

pub loops::looped-returns-clause-ways : goal.loops::looped-returns-clause-ways
loops::looped-returns-clause-ways t c =
    let o = plain_opt_suite c.args.orelse.now in
    c.or.ensures (λ w. turns_last c.args.rules.any w c.args.line (plain_suite c.args.body.now)) (λ w. onward_only w (only (not c.args.constant && opt_empty o) (c.args.line ∷ [])))
    c.in_ok-turns.ensures.ways (c.in_ok-ends.ensures.ways o c.first_in.ensures)

-- ---- statements

pub walk::statement-returns-in_ok-left-in-If-clause-arcs : goal.walk::statement-returns-in_ok-left-in-If-clause-arcs
walk::statement-returns-in_ok-left-in-If-clause-arcs t c =
    let o = plain_opt_suite c.in-If.orelse in
    if-arcs c.with_else.result c.args.rules.any (targets_of c.args.jumps) c.args.line (plain_kind c.args.kind.now) (plain_arms c.deref.result.now) o c.args.out.now.items c.tests.new.out.items c.with_else.new.out.items
    (the-if c.args.kind.now c.in-If.arms c.in-If.orelse c.deref.result.now c.in-If.is c.deref.ensures.value) (c.in_ok-left-in-If.ensures.arcs (opt_first o) (opt_empty o) c.first_in.ensures) c.with_else.ensures.arcs

pub walk::statement-returns-in_ok-left-in-If-clause-ways : goal.walk::statement-returns-in_ok-left-in-If-clause-ways
walk::statement-returns-in_ok-left-in-If-clause-ways t c =
    let o = plain_opt_suite c.in-If.orelse in
    if-left c.with_else.result c.args.rules.any c.args.line (plain_kind c.args.kind.now) (plain_arms c.deref.result.now) o c.in_ok-left-in-If.left
    (the-if c.args.kind.now c.in-If.arms c.in-If.orelse c.deref.result.now c.in-If.is c.deref.ensures.value) (c.in_ok-left-in-If.ensures.ways (opt_first o) (opt_empty o) c.first_in.ensures) c.with_else.ensures.ways

pub walk::statement-returns-in_ok-left-in-While-clause-arcs : goal.walk::statement-returns-in_ok-left-in-While-clause-arcs
walk::statement-returns-in_ok-left-in-While-clause-arcs t c =
    let s = plain_suite c.in-While.body in
    let o = plain_opt_suite c.in-While.orelse in
    loop-arcs c.with_else-in-While.result c.args.rules.any c.is_constant.result (targets_of c.args.jumps) c.args.line s o c.args.out.now.items c.looped.new.out.items c.with_else-in-While.new.out.items _
    (while-walk c.args.rules.any c.is_constant.result (targets_of c.args.jumps) c.args.line c.args.kind.now (plain_expr c.in-While.test) s o (the-while c.args.kind.now c.in-While.test c.in-While.body c.in-While.orelse c.in-While.is) c.is_constant.ensures)
    c.in_ok-left-in-While.ensures.arcs c.with_else-in-While.ensures.arcs

pub walk::statement-returns-in_ok-left-in-While-clause-ways : goal.walk::statement-returns-in_ok-left-in-While-clause-ways
walk::statement-returns-in_ok-left-in-While-clause-ways t c =
    let s = plain_suite c.in-While.body in
    let o = plain_opt_suite c.in-While.orelse in
    loop-left c.with_else-in-While.result c.args.rules.any c.is_constant.result c.args.line s o c.in_ok-left-in-While.left (λ w. kind_last c.args.rules.any w c.args.line (plain_kind c.args.kind.now))
    (λ w. while-last c.args.rules.any c.is_constant.result w c.args.line c.args.kind.now (plain_expr c.in-While.test) s o (the-while c.args.kind.now c.in-While.test c.in-While.body c.in-While.orelse c.in-While.is) c.is_constant.ensures)
    c.in_ok-left-in-While.ensures.ways c.with_else-in-While.ensures.ways

pub walk::statement-returns-in_ok-left-in-For-clause-arcs : goal.walk::statement-returns-in_ok-left-in-For-clause-arcs
walk::statement-returns-in_ok-left-in-For-clause-arcs t c =
    let s = plain_suite c.in-For.body in
    let o = plain_opt_suite c.in-For.orelse in
    loop-arcs c.with_else-in-For.result c.args.rules.any false (targets_of c.args.jumps) c.args.line s o c.args.out.now.items c.looped-in-For.new.out.items c.with_else-in-For.new.out.items _
    (for-walk c.args.rules.any (targets_of c.args.jumps) c.args.line c.args.kind.now (plain_expr c.in-For.target) (plain_expr c.in-For.over) s o (the-for c.args.kind.now c.in-For.target c.in-For.over c.in-For.body c.in-For.orelse c.in-For.is))
    c.in_ok-left-in-For.ensures.arcs c.with_else-in-For.ensures.arcs

pub walk::statement-returns-in_ok-left-in-For-clause-ways : goal.walk::statement-returns-in_ok-left-in-For-clause-ways
walk::statement-returns-in_ok-left-in-For-clause-ways t c =
    let s = plain_suite c.in-For.body in
    let o = plain_opt_suite c.in-For.orelse in
    loop-left c.with_else-in-For.result c.args.rules.any false c.args.line s o c.in_ok-left-in-For.left (λ w. kind_last c.args.rules.any w c.args.line (plain_kind c.args.kind.now))
    (λ w. for-last c.args.rules.any w c.args.line c.args.kind.now (plain_expr c.in-For.target) (plain_expr c.in-For.over) s o (the-for c.args.kind.now c.in-For.target c.in-For.over c.in-For.body c.in-For.orelse c.in-For.is))
    c.in_ok-left-in-For.ensures.ways c.with_else-in-For.ensures.ways

pub walk::statement-returns-in_ok-others-in-Try-clause-arcs : goal.walk::statement-returns-in_ok-others-in-Try-clause-arcs
walk::statement-returns-in_ok-others-in-Try-clause-arcs t c =
    let any = c.args.rules.any in
    let s = plain_suite c.in-Try.body in
    let cs = plain_clauses c.deref-in-Try.result.now in
    let o = plain_opt_suite c.in-Try.orelse in
    let fin = plain_opt_suite c.in-Try.finally in
    let again : plain_clauses c.deref-in-Try-2.result.now ≡ cs = ap plain_clauses (c.deref-in-Try-2.ensures.value ∙ sym c.deref-in-Try.ensures.value) in
    try-arcs c.finish.result any (targets_of c.args.jumps) (targets_of c.before_finally-inner.result) c.args.line (plain_kind c.args.kind.now) s cs o fin c.or-in-Try.result
    c.args.out.now.items c.attempt.new.out.items c.handlers.new.out.items c.optional.new.out.items c.finish.new.out.items
    (the-try c.args.kind.now c.in-Try.body c.in-Try.clauses c.in-Try.orelse c.in-Try.finally c.deref-in-Try.result.now c.in-Try.is c.deref-in-Try.ensures.value)
    (c.before_finally-inner.ensures fin c.first_in-in-Try.ensures)
    (came-left any c.args.line s cs o c.in_ok-ended-in-Try.ended c.in_ok-handled-in-Try.handled c.in_ok-others-in-Try.others c.or.result c.or-in-Try.result
    c.in_ok-ended-in-Try.ensures.ways
    (λ w. c.in_ok-handled-in-Try.ensures.ways w ∙ ap (λ z. comes (clauses_last any w z)) again)
    c.in_ok-others-in-Try.ensures.ways c.or.ensures c.or-in-Try.ensures)
    c.in_ok-ended-in-Try.ensures.arcs
    (c.in_ok-handled-in-Try.ensures.arcs ∙ ap (λ z. c.attempt.new.out.items ++ clauses_walk any (targets_of c.before_finally-inner.result) z) again)
    c.in_ok-others-in-Try.ensures.arcs c.finish.ensures.arcs

pub walk::statement-returns-in_ok-others-in-Try-clause-ways : goal.walk::statement-returns-in_ok-others-in-Try-clause-ways
walk::statement-returns-in_ok-others-in-Try-clause-ways t c =
    let any = c.args.rules.any in
    let s = plain_suite c.in-Try.body in
    let cs = plain_clauses c.deref-in-Try.result.now in
    let o = plain_opt_suite c.in-Try.orelse in
    let fin = plain_opt_suite c.in-Try.finally in
    let again : plain_clauses c.deref-in-Try-2.result.now ≡ cs = ap plain_clauses (c.deref-in-Try-2.ensures.value ∙ sym c.deref-in-Try.ensures.value) in
    try-left c.finish.result any c.args.line (plain_kind c.args.kind.now) s cs o fin c.or-in-Try.result
    (the-try c.args.kind.now c.in-Try.body c.in-Try.clauses c.in-Try.orelse c.in-Try.finally c.deref-in-Try.result.now c.in-Try.is c.deref-in-Try.ensures.value)
    (came-left any c.args.line s cs o c.in_ok-ended-in-Try.ended c.in_ok-handled-in-Try.handled c.in_ok-others-in-Try.others c.or.result c.or-in-Try.result
    c.in_ok-ended-in-Try.ensures.ways
    (λ w. c.in_ok-handled-in-Try.ensures.ways w ∙ ap (λ z. comes (clauses_last any w z)) again)
    c.in_ok-others-in-Try.ensures.ways c.or.ensures c.or-in-Try.ensures)
    c.finish.ensures.ways

pub walk::statement-returns-in-Match-clause-ways : goal.walk::statement-returns-in-Match-clause-ways
walk::statement-returns-in-Match-clause-ways t c =
    left-so c.matched.result _ _ (λ w. match-is c.args.rules.any w c.args.line c.args.kind.now c.in-Match.subject c.in-Match.header_last c.in-Match.cases c.deref-in-Match.result.now c.in-Match.is c.deref-in-Match.ensures.value) c.matched.ensures.ways
