use Rattle.cov_predict.proofs.Left.{raising_of}
use Rattle.cov_predict.proofs.ways.Ways.raising.Goals as goal

pub returns : goal.returns
returns c = λ l. raising_of c.none.result c.args.any l c.none.ensures
