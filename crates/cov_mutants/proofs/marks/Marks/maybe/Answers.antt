use Rattle.cov_mutants.proofs.MarkLaws.{some-marked}
use Rattle.cov_mutants.proofs.marks.Marks.maybe.Goals as goal

pub returns-in_ok-expr-in-Some : goal.returns-in_ok-expr-in-Some
returns-in_ok-expr-in-Some c = some-marked c.args.line _ _ c.args.e.now _ _ _ c.in-Some.is c.into_inner.ensures c.in_ok-expr-in-Some.ensures
