use Rattle.cov_mutants.proofs.MarkLaws.{row-marked}
use Rattle.cov_mutants.proofs.marks.Marks.exprs.Goals as goal

pub returns : goal.returns
returns c = row-marked c.exprs.result c.args.self.now c.come_to.new.self c.exprs.new.at c.args.line _ c.come_to.ensures.search c.come_to.ensures.line c.exprs.ensures
