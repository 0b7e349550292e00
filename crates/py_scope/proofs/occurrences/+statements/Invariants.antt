use Rattle.std.proofs.Common.{◌≡◌, ◌++◌, drop}
use Rattle.py_syntax.specs.View.{plain_stmts, plain_arms, plain_clauses, plain_cases}
use Rattle.py_scope.specs.Occurrences.{occurrences, in_arms, in_clauses, in_cases}
use Rattle.py_scope.proofs.occurrences.+statements.Given as goal

abbrev pub invariant-statements-loop-s : goal.invariant-statements-loop-s
invariant-statements-loop-s l = l.out.items ++ occurrences (plain_stmts (drop l.s-index l.items)) ≡ l.initial.out.items ++ occurrences (plain_stmts l.items)

abbrev pub invariant-branches-loop-arm : goal.invariant-branches-loop-arm
invariant-branches-loop-arm l = l.out.items ++ in_arms (plain_arms (drop l.arm-index l.items)) ≡ l.initial.out.items ++ in_arms (plain_arms l.items)

abbrev pub invariant-handlers-loop-clause : goal.invariant-handlers-loop-clause
invariant-handlers-loop-clause l = l.out.items ++ in_clauses (plain_clauses (drop l.clause-index l.items)) ≡ l.initial.out.items ++ in_clauses (plain_clauses l.items)

abbrev pub invariant-choices-loop-case : goal.invariant-choices-loop-case
invariant-choices-loop-case l = l.out.items ++ in_cases (plain_cases (drop l.case-index l.items)) ≡ l.initial.out.items ++ in_cases (plain_cases l.items)
