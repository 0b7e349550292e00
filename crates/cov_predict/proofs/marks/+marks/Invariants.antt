use Rattle.std.proofs.Common.{◌≡◌, ◌++◌, drop}
use Rattle.py_syntax.specs.View.{plain_stmts, plain_arms, plain_clauses, plain_cases}
use Rattle.py_syntax.specs.Marks.{arms_marks, clauses_marks, cases_marks}
use Rattle.cov_predict.specs.Leading.{lines_of}
use Rattle.cov_predict.proofs.marks.+marks.Given as goal

abbrev pub invariant-statements-loop-s : goal.invariant-statements-loop-s
invariant-statements-loop-s l = l.out.items ++ lines_of l.first (plain_stmts (drop l.s-index l.items)) ≡ l.initial.out.items ++ lines_of l.initial.first (plain_stmts l.items)

abbrev pub invariant-tests-loop-arm : goal.invariant-tests-loop-arm
invariant-tests-loop-arm l = l.out.items ++ arms_marks (plain_arms (drop l.arm-index l.items)) ≡ l.initial.out.items ++ arms_marks (plain_arms l.items)

abbrev pub invariant-clauses-loop-clause : goal.invariant-clauses-loop-clause
invariant-clauses-loop-clause l = l.out.items ++ clauses_marks (plain_clauses (drop l.clause-index l.items)) ≡ l.initial.out.items ++ clauses_marks (plain_clauses l.items)

abbrev pub invariant-cases-loop-case : goal.invariant-cases-loop-case
invariant-cases-loop-case l = l.out.items ++ cases_marks (plain_cases (drop l.case-index l.items)) ≡ l.initial.out.items ++ cases_marks (plain_cases l.items)
