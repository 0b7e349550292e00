use Rattle.cov_pieces.proofs.Walks.{next}
use Rattle.cov_pieces.proofs.heads.test.Goals as goal

pub returns : goal.returns
returns c =
    next c.push.ensures (next (next c.number.ensures c.expr.ensures) c.marked.ensures)
