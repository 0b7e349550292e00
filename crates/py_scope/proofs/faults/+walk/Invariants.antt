use Rattle.std.proofs.Common.{◌≡◌, ◌+◌, length, drop}
use Rattle.py_syntax.specs.View.{plain_stmts, plain_arms, plain_clauses, plain_cases}
use Rattle.py_scope.specs.Faults.{◌&◌, findings, arms_findings, clauses_findings, cases_findings}
use Rattle.py_scope.proofs.faults.+walk.Given as goal

abbrev pub invariant-statements-loop-s : goal.invariant-statements-loop-s
invariant-statements-loop-s l = (l.report & findings l.at (plain_stmts (drop l.s-index l.items))) ≡ (l.initial.report & findings l.at (plain_stmts l.items))

abbrev pub invariant-branches-loop-arm : goal.invariant-branches-loop-arm
invariant-branches-loop-arm l = (l.report & arms_findings l.at (plain_arms (drop l.arm-index l.items))) ≡ (l.initial.report & arms_findings l.at (plain_arms l.items))

abbrev pub invariant-handlers-loop-clause : goal.invariant-handlers-loop-clause
invariant-handlers-loop-clause l = record { left : l.later + l.clause-index ≡ length l.items; found : (l.report & clauses_findings l.at (plain_clauses (drop l.clause-index l.items))) ≡ (l.initial.report & clauses_findings l.at (plain_clauses l.items)) }

abbrev pub invariant-cases-loop-case : goal.invariant-cases-loop-case
invariant-cases-loop-case l = record { left : l.later + l.case-index ≡ length l.items; found : (l.report & cases_findings l.at (plain_cases (drop l.case-index l.items))) ≡ (l.initial.report & cases_findings l.at (plain_cases l.items)) }
