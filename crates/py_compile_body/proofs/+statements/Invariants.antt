use Rattle.std.proofs.Common.{◌≡◌, ◌+◌, ◌++◌, drop}
use Rattle.py_syntax.specs.View.{plain_stmts, plain_arms, plain_clauses, plain_cases}
use Rattle.py_compile.specs.Statements.{stmts_size, stmts_code, arms_size, arms_code, clauses_size, clauses_code, cases_size, cases_code}
use Rattle.py_compile.specs.Ways.{in_hand}
use Rattle.py_compile_body.specs.Parts.{at_lines}
use Rattle.py_compile_body.specs.WaysView.{plain_ways}
use Rattle.py_compile_body.proofs.+statements.Given as goal

abbrev pub invariant-statements::put_stmts-loop-s : goal.invariant-statements::put_stmts-loop-s
invariant-statements::put_stmts-loop-s l = record {
  cells : l.out ++ stmts_code (at_lines l.defs) (plain_ways l.ways) l.to (plain_stmts (drop l.s-index l.items)) ≡ l.initial.out ++ stmts_code (at_lines l.defs) (plain_ways l.ways) l.initial.to (plain_stmts l.items);
  place : l.to + stmts_size (in_hand (plain_ways l.ways)) (plain_stmts (drop l.s-index l.items)) ≡ l.initial.to + stmts_size (in_hand (plain_ways l.ways)) (plain_stmts l.items);
}

abbrev pub invariant-branches::put_arms-loop-arm : goal.invariant-branches::put_arms-loop-arm
invariant-branches::put_arms-loop-arm l = record {
  cells : l.out ++ arms_code (at_lines l.defs) (plain_ways l.ways) l.to l.end (plain_arms (drop l.arm-index l.items)) ≡ l.initial.out ++ arms_code (at_lines l.defs) (plain_ways l.ways) l.initial.to l.end (plain_arms l.items);
  place : l.to + arms_size (in_hand (plain_ways l.ways)) (plain_arms (drop l.arm-index l.items)) ≡ l.initial.to + arms_size (in_hand (plain_ways l.ways)) (plain_arms l.items);
}

abbrev pub invariant-branches::put_clauses-loop-clause : goal.invariant-branches::put_clauses-loop-clause
invariant-branches::put_clauses-loop-clause l = record {
  cells : l.out ++ clauses_code (at_lines l.defs) (plain_ways l.ways) l.to l.end (plain_clauses (drop l.clause-index l.items)) ≡ l.initial.out ++ clauses_code (at_lines l.defs) (plain_ways l.ways) l.initial.to l.end (plain_clauses l.items);
  place : l.to + clauses_size (in_hand (plain_ways l.ways)) (plain_clauses (drop l.clause-index l.items)) ≡ l.initial.to + clauses_size (in_hand (plain_ways l.ways)) (plain_clauses l.items);
}

abbrev pub invariant-branches::put_cases-loop-case : goal.invariant-branches::put_cases-loop-case
invariant-branches::put_cases-loop-case l = record {
  cells : l.out ++ cases_code (at_lines l.defs) (plain_ways l.ways) l.to l.end (plain_cases (drop l.case-index l.items)) ≡ l.initial.out ++ cases_code (at_lines l.defs) (plain_ways l.ways) l.initial.to l.end (plain_cases l.items);
  place : l.to + cases_size (in_hand (plain_ways l.ways)) (plain_cases (drop l.case-index l.items)) ≡ l.initial.to + cases_size (in_hand (plain_ways l.ways)) (plain_cases l.items);
}
