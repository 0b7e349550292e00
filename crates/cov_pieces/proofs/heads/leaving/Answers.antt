use Rattle.cov_pieces.proofs.Walks.{next}
use Rattle.cov_pieces.proofs.heads.leaving.Goals as goal

pub returns : goal.returns
returns c =
    next c.push.ensures (next c.option.ensures c.marked.ensures)
