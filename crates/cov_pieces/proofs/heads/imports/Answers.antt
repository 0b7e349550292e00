use Rattle.cov_pieces.proofs.Walks.{next}
use Rattle.cov_pieces.proofs.heads.imports.Goals as goal

pub returns : goal.returns
returns c =
    next c.push.ensures (next c.aliases.ensures c.marked.ensures)
