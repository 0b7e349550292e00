use Rattle.std.proofs.Common.{◌≡◌, drop}
use Rattle.py_syntax.specs.Names.{add_names}
use Rattle.py_syntax.specs.View.{plain_stmts, plain_arms, plain_clauses, plain_cases}
use Rattle.py_meaning.specs.Loading.{imported, arms_imported, clauses_imported, cases_imported}
use Rattle.cov_run.proofs.imports.+imports.Given as goal

abbrev pub invariant-add_imported-loop-s : goal.invariant-add_imported-loop-s
invariant-add_imported-loop-s l = add_names l.names (imported (plain_stmts (drop l.s-index l.items))) ≡ add_names l.initial.names (imported (plain_stmts l.items))

abbrev pub invariant-in_arms-loop-arm : goal.invariant-in_arms-loop-arm
invariant-in_arms-loop-arm l = add_names l.names (arms_imported (plain_arms (drop l.arm-index l.items))) ≡ add_names l.initial.names (arms_imported (plain_arms l.items))

abbrev pub invariant-in_clauses-loop-clause : goal.invariant-in_clauses-loop-clause
invariant-in_clauses-loop-clause l = add_names l.names (clauses_imported (plain_clauses (drop l.clause-index l.items))) ≡ add_names l.initial.names (clauses_imported (plain_clauses l.items))

abbrev pub invariant-in_cases-loop-case : goal.invariant-in_cases-loop-case
invariant-in_cases-loop-case l = add_names l.names (cases_imported (plain_cases (drop l.case-index l.items))) ≡ add_names l.initial.names (cases_imported (plain_cases l.items))
