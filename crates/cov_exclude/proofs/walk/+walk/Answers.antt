use Rattle.std.proofs.Common.{refl}
use Rattle.py_syntax.specs.View.{plain_stmts, plain_arms, plain_clauses, plain_cases}
use Rattle.cov_predict.proofs.Gathering.{at_end}
use Rattle.cov_exclude.specs.Views.{rule_view}
use Rattle.cov_exclude.specs.Walk.{stmts_walk, arms_walk, clauses_walk, cases_walk}
use Rattle.cov_exclude.proofs.Forms.{matched, in_two, tried, turn}
use Rattle.cov_exclude.proofs.walk.+walk.Goals as goal

pub statements-loop-s-preserved : goal.statements-loop-s-preserved
statements-loop-s-preserved t c =
    turn (rule_view c.args.rule) c.args.whole c.loop-s.first c.loop-s.out.items c.leading.new.out.items _ c.args.items.now c.loop-s.s-index c.s-item.result c.loop-s-test.true c.s-item.is c.in_ok-leading.ensures c.loop-s.invariant

pub statements-returns : goal.statements-returns
statements-returns t c = at_end (λ xs. stmts_walk (rule_view c.args.rule) c.args.whole c.loop-s.first (plain_stmts xs)) refl _ _ c.args.items.now _ c.loop-s-test.false c.loop-s.invariant

pub tests-returns : goal.tests-returns
tests-returns t c = at_end (λ xs. arms_walk (rule_view c.args.rule) c.args.whole (plain_arms xs)) refl _ _ _ _ c.loop-arm-test.false c.loop-arm.invariant

pub clauses-returns : goal.clauses-returns
clauses-returns t c = at_end (λ xs. clauses_walk (rule_view c.args.rule) c.args.whole (plain_clauses xs)) refl _ _ _ _ c.loop-clause-test.false c.loop-clause.invariant

pub cases-returns : goal.cases-returns
cases-returns t c = at_end (λ xs. cases_walk (rule_view c.args.rule) c.args.whole (plain_cases xs)) refl _ _ _ _ c.loop-case-test.false c.loop-case.invariant

pub statement-returns-in_ok-opt-in-Try : goal.statement-returns-in_ok-opt-in-Try
statement-returns-in_ok-opt-in-Try t c =
    tried (rule_view c.args.rule) c.args.whole c.args.line c.args.last c.args.kind.now c.opt-in-Try-2.result c.in-Try.body c.in-Try.handlers c.deref-in-Try.result.now c.in-Try.orelse c.in-Try.finally
    c.args.out.now.items c.headed-in-Try.new.out.items c.clauses.new.out.items c.opt-in-Try.new.out.items c.opt-in-Try-2.new.out.items
    c.in-Try.is c.deref-in-Try.ensures.value c.in_ok-headed-in-Try.ensures c.in_ok-clauses-in-Try.ensures c.in_ok-opt-in-Try.ensures c.opt-in-Try-2.ensures

pub statement-returns-in-Match : goal.statement-returns-in-Match
statement-returns-in-Match t c =
    matched (rule_view c.args.rule) c.args.whole c.args.line c.args.last c.args.kind.now c.matched.result c.in-Match.subject c.in-Match.header_last c.in-Match.list c.deref-in-Match.result.now
    c.args.out.now.items c.matched.new.out.items c.in-Match.is c.deref-in-Match.ensures.value c.matched.ensures

pub matched-returns : goal.matched-returns
matched-returns t c =
    in_two (rule_view c.args.rule) c.args.whole c.args.line c.args.header_last c.cases.result c.args.list.now c.is_whole-all.result c.args.out.now.items c.mark.new.out.items c.cases.new.out.items
    c.is_whole-all.ensures c.in_ok-mark.ensures c.cases.ensures
