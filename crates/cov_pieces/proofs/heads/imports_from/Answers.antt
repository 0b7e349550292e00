use Rattle.cov_pieces.proofs.Walks.{next}
use Rattle.cov_pieces.proofs.heads.imports_from.Goals as goal

pub returns : goal.returns
returns c =
    next c.push.ensures (next (next c.push-2.ensures c.aliases.ensures) c.marked.ensures)
