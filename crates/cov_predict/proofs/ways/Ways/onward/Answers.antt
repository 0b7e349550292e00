use Rattle.cov_predict.proofs.Left.{onward_of}
use Rattle.cov_predict.proofs.ways.Ways.onward.Goals as goal

pub returns : goal.returns
returns c = λ ls e. onward_of c.none.result c.args.marks ls c.none.ensures e
