use Rattle.std.proofs.Common.{refl, ap}
use Rattle.py_syntax.specs.View.{plain_stmts, plain_arms, plain_clauses, plain_cases}
use Rattle.cov_predict.specs.Defs.{stmts_defs, kind_defs, arms_defs, clauses_defs, cases_defs}
use Rattle.cov_predict.proofs.Compounds.{the-try, match-defs}
use Rattle.cov_predict.proofs.Gathering.{at_end, said, four}
use Rattle.cov_predict.proofs.bodies.+functions.Goals as goal

pub functions-returns : goal.functions-returns
functions-returns t c = at_end (λ xs. stmts_defs c.args.rules.any (plain_stmts xs)) refl _ _ _ _ c.loop-s-test.false c.loop-s.invariant

pub in_arms-returns : goal.in_arms-returns
in_arms-returns t c = at_end (λ xs. arms_defs c.args.rules.any (plain_arms xs)) refl _ _ _ _ c.loop-arm-test.false c.loop-arm.invariant

pub in_clauses-returns : goal.in_clauses-returns
in_clauses-returns t c = at_end (λ xs. clauses_defs c.args.rules.any (plain_clauses xs)) refl _ _ _ _ c.loop-clause-test.false c.loop-clause.invariant

pub in_cases-returns : goal.in_cases-returns
in_cases-returns t c = at_end (λ xs. cases_defs c.args.rules.any (plain_cases xs)) refl _ _ _ _ c.loop-case-test.false c.loop-case.invariant

pub in_statement-returns-in_ok-in_optional-in-Try : goal.in_statement-returns-in_ok-in_optional-in-Try
in_statement-returns-in_ok-in_optional-in-Try t c =
    said c.in_optional-in-Try-2.result _ _ _ _
    (ap (kind_defs c.args.rules.any c.args.line) (the-try c.args.kind.now c.in-Try.body c.in-Try.clauses c.in-Try.orelse c.in-Try.finally c.deref-in-Try.result.now c.in-Try.is c.deref-in-Try.ensures.value))
    (four c.in_optional-in-Try-2.result _ _ _ _ c.args.out.now.items c.in_suite-in-Try.new.out.items c.in_clauses.new.out.items c.in_optional-in-Try.new.out.items c.in_optional-in-Try-2.new.out.items
    c.in_ok-in_suite-in-Try.ensures c.in_ok-in_clauses-in-Try.ensures c.in_ok-in_optional-in-Try.ensures c.in_optional-in-Try-2.ensures)

pub in_statement-returns-in-Match : goal.in_statement-returns-in-Match
in_statement-returns-in-Match t c =
    said c.in_cases.result _ _ _ _ (match-defs c.args.rules.any c.args.line c.args.kind.now c.in-Match.subject c.in-Match.header_last c.in-Match.cases c.deref-in-Match.result.now c.in-Match.is c.deref-in-Match.ensures.value) c.in_cases.ensures
