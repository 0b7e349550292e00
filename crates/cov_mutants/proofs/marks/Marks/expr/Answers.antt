use Rattle.cov_mutants.proofs.MarkLaws.{box-marked}
use Rattle.cov_mutants.proofs.marks.Marks.expr.Goals as goal

pub returns : goal.returns
returns c = box-marked c.expr.result c.args.self.now c.come_to.new.self c.expr.new.at c.args.line _ c.come_to.ensures.search c.come_to.ensures.line c.expr.ensures
