use Rattle.std.proofs.Common.{◌≡◌, ◌++◌, drop}
use Rattle.py_syntax.specs.View.{plain_stmts, plain_arms, plain_clauses, plain_cases}
use Rattle.cov_exclude.specs.Views.{rule_view}
use Rattle.cov_exclude.specs.Walk.{stmts_walk, arms_walk, clauses_walk, cases_walk}
use Rattle.cov_exclude.proofs.walk.+walk.Given as goal

abbrev pub invariant-statements-loop-s : goal.invariant-statements-loop-s
invariant-statements-loop-s l =
    l.out.items ++ stmts_walk (rule_view l.rule) l.whole l.first (plain_stmts (drop l.s-index l.items)) ≡ l.initial.out.items ++ stmts_walk (rule_view l.rule) l.whole l.initial.first (plain_stmts l.items)

abbrev pub invariant-tests-loop-arm : goal.invariant-tests-loop-arm
invariant-tests-loop-arm l = l.out.items ++ arms_walk (rule_view l.rule) l.whole (plain_arms (drop l.arm-index l.items)) ≡ l.initial.out.items ++ arms_walk (rule_view l.rule) l.whole (plain_arms l.items)

abbrev pub invariant-clauses-loop-clause : goal.invariant-clauses-loop-clause
invariant-clauses-loop-clause l = l.out.items ++ clauses_walk (rule_view l.rule) l.whole (plain_clauses (drop l.clause-index l.items)) ≡ l.initial.out.items ++ clauses_walk (rule_view l.rule) l.whole (plain_clauses l.items)

abbrev pub invariant-cases-loop-case : goal.invariant-cases-loop-case
invariant-cases-loop-case l = l.out.items ++ cases_walk (rule_view l.rule) l.whole (plain_cases (drop l.case-index l.items)) ≡ l.initial.out.items ++ cases_walk (rule_view l.rule) l.whole (plain_cases l.items)
