use Rattle.std.proofs.Common.{drop}
use Rattle.py_syntax.specs.View.{plain_stmts, plain_arms, plain_clauses, plain_cases}
use Rattle.cov_pieces.specs.Pieces.{arms_pieces, clauses_pieces, cases_pieces}
use Rattle.cov_pieces.specs.Views.{led_pieces, Completes}
use Rattle.cov_pieces.proofs.statements.+statements.Given as goal

abbrev pub invariant-statements-loop-s : goal.invariant-statements-loop-s
invariant-statements-loop-s l = Completes l.initial.out l.out (led_pieces l.first (plain_stmts (drop l.s-index l.items))) (led_pieces l.initial.first (plain_stmts l.items))

abbrev pub invariant-branches-loop-arm : goal.invariant-branches-loop-arm
invariant-branches-loop-arm l = Completes l.initial.out l.out (arms_pieces (plain_arms (drop l.arm-index l.items))) (arms_pieces (plain_arms l.items))

abbrev pub invariant-handlers-loop-handler : goal.invariant-handlers-loop-handler
invariant-handlers-loop-handler l = Completes l.initial.out l.out (clauses_pieces (plain_clauses (drop l.handler-index l.items))) (clauses_pieces (plain_clauses l.items))

abbrev pub invariant-choices-loop-choice : goal.invariant-choices-loop-choice
invariant-choices-loop-choice l = Completes l.initial.out l.out (cases_pieces (plain_cases (drop l.choice-index l.items))) (cases_pieces (plain_cases l.items))
