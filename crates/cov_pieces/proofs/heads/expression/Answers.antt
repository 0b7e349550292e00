use Rattle.cov_pieces.proofs.Walks.{next}
use Rattle.cov_pieces.proofs.heads.expression.Goals as goal

pub returns : goal.returns
returns c =
    next c.push.ensures (next c.expr.ensures c.marked.ensures)
