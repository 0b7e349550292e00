use Rattle.cov_pieces.proofs.Walks.{next}
use Rattle.cov_pieces.proofs.heads.begin_loop.Goals as goal

pub returns : goal.returns
returns c =
    next c.push.ensures (next c.suite_fit.ensures (next c.opt_fit.ensures c.push-2.ensures))
