use Rattle.std.proofs.Common.{◌≡◌, ◌++◌, drop}
use Rattle.py_syntax.specs.View.{plain_stmts, plain_arms, plain_clauses, plain_cases}
use Rattle.cov_predict.specs.Defs.{stmts_defs, arms_defs, clauses_defs, cases_defs}
use Rattle.cov_predict.proofs.bodies.+functions.Given as goal

abbrev pub invariant-functions-loop-s : goal.invariant-functions-loop-s
invariant-functions-loop-s l = l.out.items ++ stmts_defs l.rules.any (plain_stmts (drop l.s-index l.items)) ≡ l.initial.out.items ++ stmts_defs l.rules.any (plain_stmts l.items)

abbrev pub invariant-in_arms-loop-arm : goal.invariant-in_arms-loop-arm
invariant-in_arms-loop-arm l = l.out.items ++ arms_defs l.rules.any (plain_arms (drop l.arm-index l.arms)) ≡ l.initial.out.items ++ arms_defs l.rules.any (plain_arms l.arms)

abbrev pub invariant-in_clauses-loop-clause : goal.invariant-in_clauses-loop-clause
invariant-in_clauses-loop-clause l = l.out.items ++ clauses_defs l.rules.any (plain_clauses (drop l.clause-index l.clauses)) ≡ l.initial.out.items ++ clauses_defs l.rules.any (plain_clauses l.clauses)

abbrev pub invariant-in_cases-loop-case : goal.invariant-in_cases-loop-case
invariant-in_cases-loop-case l = l.out.items ++ cases_defs l.rules.any (plain_cases (drop l.case-index l.cases)) ≡ l.initial.out.items ++ cases_defs l.rules.any (plain_cases l.cases)
