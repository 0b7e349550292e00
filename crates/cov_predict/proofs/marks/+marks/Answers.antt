use Rattle.std.proofs.Common.{refl}
use Rattle.py_syntax.specs.View.{plain_stmts, plain_arms, plain_clauses, plain_cases}
use Rattle.py_syntax.specs.Marks.{arms_marks, clauses_marks, cases_marks}
use Rattle.cov_predict.specs.Leading.{lines_of}
use Rattle.cov_predict.proofs.Gathering.{at_end, said, four}
use Rattle.cov_predict.proofs.Turns.{match-marks, try-marks, turn, none_left}
use Rattle.cov_predict.proofs.marks.+marks.Goals as goal

pub statements-loop-s-preserved : goal.statements-loop-s-preserved
statements-loop-s-preserved t c = turn c.loop-s.first c.loop-s.out.items c.leading.new.out.items _ c.args.items.now c.loop-s.s-index c.s-item.result c.loop-s-test.true c.s-item.is c.in_ok-leading.ensures c.loop-s.invariant

pub statements-returns : goal.statements-returns
statements-returns t c = at_end (λ xs. lines_of c.loop-s.first (plain_stmts xs)) (none_left c.loop-s.first) _ _ c.args.items.now _ c.loop-s-test.false c.loop-s.invariant

pub tests-returns : goal.tests-returns
tests-returns t c = at_end (λ xs. arms_marks (plain_arms xs)) refl _ _ _ _ c.loop-arm-test.false c.loop-arm.invariant

pub clauses-returns : goal.clauses-returns
clauses-returns t c = at_end (λ xs. clauses_marks (plain_clauses xs)) refl _ _ _ _ c.loop-clause-test.false c.loop-clause.invariant

pub cases-returns : goal.cases-returns
cases-returns t c = at_end (λ xs. cases_marks (plain_cases xs)) refl _ _ _ _ c.loop-case-test.false c.loop-case.invariant

pub statement-returns-in_ok-opt-in-Try : goal.statement-returns-in_ok-opt-in-Try
statement-returns-in_ok-opt-in-Try t c =
    said c.opt-in-Try-2.result _ _ _ _ (try-marks c.args.line c.args.kind.now c.in-Try.body c.in-Try.handlers c.deref-in-Try.result.now c.in-Try.orelse c.in-Try.finally c.in-Try.is c.deref-in-Try.ensures.value)
    (four c.opt-in-Try-2.result _ _ _ _ c.args.out.now.items c.headed-in-Try.new.out.items c.clauses.new.out.items c.opt-in-Try.new.out.items c.opt-in-Try-2.new.out.items
    c.in_ok-headed-in-Try.ensures c.in_ok-clauses-in-Try.ensures c.in_ok-opt-in-Try.ensures c.opt-in-Try-2.ensures)

pub statement-returns-in-Match : goal.statement-returns-in-Match
statement-returns-in-Match t c =
    said c.matched.result _ _ _ _ (match-marks c.args.line c.args.kind.now c.in-Match.subject c.in-Match.header_last c.in-Match.list c.deref-in-Match.result.now c.in-Match.is c.deref-in-Match.ensures.value) c.matched.ensures
