use Rattle.std.proofs.Common.{◌≡◌, drop}
use Rattle.py_syntax.specs.View.{plain_stmts, plain_arms, plain_clauses, plain_cases}
use Rattle.py_changes.specs.Mutants.{stmts_mutants, arms_mutants, clauses_mutants, cases_mutants}
use Rattle.cov_places.specs.Counting.{counted}
use Rattle.cov_places.proofs.stmt_counts.+tally.Given as goal

abbrev pub invariant-statements-loop-s : goal.invariant-statements-loop-s
invariant-statements-loop-s l = counted l.count (stmts_mutants (plain_stmts (drop l.s-index l.items))) ≡ counted l.so_far (stmts_mutants (plain_stmts l.items))

abbrev pub invariant-branches-loop-arm : goal.invariant-branches-loop-arm
invariant-branches-loop-arm l = counted l.count (arms_mutants (plain_arms (drop l.arm-index l.items))) ≡ counted l.so_far (arms_mutants (plain_arms l.items))

abbrev pub invariant-handlers-loop-clause : goal.invariant-handlers-loop-clause
invariant-handlers-loop-clause l = counted l.count (clauses_mutants (plain_clauses (drop l.clause-index l.items))) ≡ counted l.so_far (clauses_mutants (plain_clauses l.items))

abbrev pub invariant-cases-loop-case : goal.invariant-cases-loop-case
invariant-cases-loop-case l = counted l.count (cases_mutants (plain_cases (drop l.case-index l.items))) ≡ counted l.so_far (cases_mutants (plain_cases l.items))
