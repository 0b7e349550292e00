use Rattle.std.proofs.Common.{◌≡◌, ℕ, Bool, List, [], ◌++◌, drop}
use Rattle.std.specs.Prelude.{◌||◌}
use Rattle.py_syntax.specs.LastMarks.{Way, comes, stmts_last, arms_last, clauses_last, cases_last}
use Rattle.py_syntax.specs.View.{plain_stmts, plain_arms, plain_clauses, plain_cases}
use Rattle.cov_predict.specs.Leaving.{IsFirst, targets_of, way_of}
use Rattle.cov_predict.specs.Steps.{FirstIn}
use Rattle.cov_predict.specs.Walk.{stmts_walk, arms_walk, clauses_walk, cases_walk}
use Rattle.cov_predict.proofs.+walk.Given as goal

abbrev pub invariant-walk::statements-loop-s : goal.invariant-walk::statements-loop-s
invariant-walk::statements-loop-s l = record {
  arcs : l.out.items ++ stmts_walk l.rules.any (targets_of l.jumps) (plain_stmts (drop l.s-index l.items)) ≡ l.initial.out.items ++ stmts_walk l.rules.any (targets_of l.jumps) (plain_stmts l.items);
  ways : (w : Way) → (way_of l.left w || comes (stmts_last l.rules.any w (plain_stmts (drop l.s-index l.items)))) ≡ comes (stmts_last l.rules.any w (plain_stmts l.items));
  passed : l.passed ≡ l.s-index;
  next : FirstIn (drop l.s-index l.items) l.next;
}

abbrev pub invariant-branches::tests-loop-arm : goal.invariant-branches::tests-loop-arm
invariant-branches::tests-loop-arm l = record {
  arcs : (ms : List ℕ) (e : Bool) → IsFirst l.orelse ms e
      → l.out.items ++ arms_walk l.rules.any (targets_of l.jumps) (plain_arms (drop l.arm-index l.arms)) ms e ≡ l.initial.out.items ++ arms_walk l.rules.any (targets_of l.jumps) (plain_arms l.arms) ms e;
  ways : (ms : List ℕ) (e : Bool) → IsFirst l.orelse ms e → (w : Way)
      → (way_of l.left w || comes (arms_last l.rules.any w (plain_arms (drop l.arm-index l.arms)) [] e)) ≡ comes (arms_last l.rules.any w (plain_arms l.arms) [] e);
  passed : l.passed ≡ l.arm-index;
}

abbrev pub invariant-handlers::handlers-loop-clause : goal.invariant-handlers::handlers-loop-clause
invariant-handlers::handlers-loop-clause l = record {
  arcs : l.out.items ++ clauses_walk l.rules.any (targets_of l.jumps) (plain_clauses (drop l.clause-index l.clauses)) ≡ l.initial.out.items ++ clauses_walk l.rules.any (targets_of l.jumps) (plain_clauses l.clauses);
  ways : (w : Way) → (way_of l.left w || comes (clauses_last l.rules.any w (plain_clauses (drop l.clause-index l.clauses)))) ≡ comes (clauses_last l.rules.any w (plain_clauses l.clauses));
  passed : l.passed ≡ l.clause-index;
}

abbrev pub invariant-branches::alternatives-loop-case : goal.invariant-branches::alternatives-loop-case
invariant-branches::alternatives-loop-case l = record {
  arcs : l.out.items ++ cases_walk l.rules.any (targets_of l.jumps) (plain_cases (drop l.case-index l.cases)) ≡ l.initial.out.items ++ cases_walk l.rules.any (targets_of l.jumps) (plain_cases l.cases);
  ways : (w : Way) → (way_of l.left w || comes (cases_last l.rules.any w (plain_cases (drop l.case-index l.cases)))) ≡ comes (cases_last l.rules.any w (plain_cases l.cases));
  passed : l.passed ≡ l.case-index;
}
