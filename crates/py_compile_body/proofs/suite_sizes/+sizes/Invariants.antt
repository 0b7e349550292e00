use Rattle.std.proofs.Common.{◌≡◌, ◌+◌, drop}
use Rattle.py_syntax.specs.View.{plain_stmts, plain_arms, plain_clauses, plain_cases}
use Rattle.py_compile.specs.Statements.{stmts_size, arms_size, clauses_size, cases_size}
use Rattle.py_compile_body.proofs.suite_sizes.+sizes.Given as goal

abbrev pub invariant-stmts_size-loop-s : goal.invariant-stmts_size-loop-s
invariant-stmts_size-loop-s l = l.size + stmts_size l.handled (plain_stmts (drop l.s-index l.items)) ≡ stmts_size l.handled (plain_stmts l.items)

abbrev pub invariant-arms_size-loop-arm : goal.invariant-arms_size-loop-arm
invariant-arms_size-loop-arm l = l.size + arms_size l.handled (plain_arms (drop l.arm-index l.items)) ≡ arms_size l.handled (plain_arms l.items)

abbrev pub invariant-clauses_size-loop-clause : goal.invariant-clauses_size-loop-clause
invariant-clauses_size-loop-clause l = l.size + clauses_size l.handled (plain_clauses (drop l.clause-index l.items)) ≡ 1 + clauses_size l.handled (plain_clauses l.items)

abbrev pub invariant-cases_size-loop-case : goal.invariant-cases_size-loop-case
invariant-cases_size-loop-case l = l.size + cases_size l.handled (plain_cases (drop l.case-index l.items)) ≡ 1 + cases_size l.handled (plain_cases l.items)
