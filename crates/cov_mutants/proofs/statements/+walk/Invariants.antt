use Rattle.std.proofs.Common.{drop}
use Rattle.py_syntax.specs.View.{plain_stmts, plain_arms, plain_clauses, plain_cases}
use Rattle.py_changes.specs.Mutants.{stmts_mutants, arms_mutants, clauses_mutants, cases_mutants}
use Rattle.cov_mutants_expr.specs.Rows.{Going}
use Rattle.cov_places.specs.ItemRows.{put_stmt, put_arm, put_clause, put_case}
use Rattle.cov_mutants.specs.MarksView.{marked}
use Rattle.cov_mutants.proofs.statements.+walk.Given as goal

abbrev pub invariant-statements-loop-s : goal.invariant-statements-loop-s
invariant-statements-loop-s l = Going put_stmt stmts_mutants (marked l.initial.at) (marked l.at) (plain_stmts l.items) (plain_stmts (drop l.s-index l.items)) l.out.items

abbrev pub invariant-branches-loop-arm : goal.invariant-branches-loop-arm
invariant-branches-loop-arm l = Going put_arm arms_mutants (marked l.initial.at) (marked l.at) (plain_arms l.items) (plain_arms (drop l.arm-index l.items)) l.out.items

abbrev pub invariant-handlers-loop-clause : goal.invariant-handlers-loop-clause
invariant-handlers-loop-clause l = Going put_clause clauses_mutants (marked l.initial.at) (marked l.at) (plain_clauses l.items) (plain_clauses (drop l.clause-index l.items)) l.out.items

abbrev pub invariant-cases-loop-case : goal.invariant-cases-loop-case
invariant-cases-loop-case l = Going put_case cases_mutants (marked l.initial.at) (marked l.at) (plain_cases l.items) (plain_cases (drop l.case-index l.items)) l.out.items
