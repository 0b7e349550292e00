use Rattle.cov_pieces.proofs.Walks.{next}
use Rattle.cov_pieces.proofs.heads.idle.Goals as goal

pub returns : goal.returns
returns c =
    next c.push.ensures c.marked.ensures
