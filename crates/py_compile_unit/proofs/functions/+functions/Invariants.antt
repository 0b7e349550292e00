use Rattle.std.proofs.Common.{◌≡◌, ◌++◌, map, drop}
use Rattle.py_syntax.specs.View.{plain_stmts, plain_arms, plain_clauses, plain_cases}
use Rattle.py_compile.specs.Definitions.{definitions, arms_definitions, clauses_definitions, cases_definitions}
use Rattle.py_compile_unit.specs.Defs.{definition_of}
use Rattle.py_compile_unit.proofs.functions.+functions.Given as goal

abbrev pub invariant-statements-loop-s : goal.invariant-statements-loop-s
invariant-statements-loop-s l = map definition_of l.found.items ++ definitions (plain_stmts (drop l.s-index l.items)) ≡ map definition_of l.initial.found.items ++ definitions (plain_stmts l.items)

abbrev pub invariant-in_arms-loop-arm : goal.invariant-in_arms-loop-arm
invariant-in_arms-loop-arm l = map definition_of l.found.items ++ arms_definitions (plain_arms (drop l.arm-index l.items)) ≡ map definition_of l.initial.found.items ++ arms_definitions (plain_arms l.items)

abbrev pub invariant-in_clauses-loop-clause : goal.invariant-in_clauses-loop-clause
invariant-in_clauses-loop-clause l = map definition_of l.found.items ++ clauses_definitions (plain_clauses (drop l.clause-index l.items)) ≡ map definition_of l.initial.found.items ++ clauses_definitions (plain_clauses l.items)

abbrev pub invariant-in_cases-loop-case : goal.invariant-in_cases-loop-case
invariant-in_cases-loop-case l = map definition_of l.found.items ++ cases_definitions (plain_cases (drop l.case-index l.items)) ≡ map definition_of l.initial.found.items ++ cases_definitions (plain_cases l.items)
