use Rattle.std.proofs.Common.{[], ◌∷◌, ap}
use Rattle.cov_pieces.specs.Pieces.{word}
use Rattle.cov_pieces.specs.Words.{truth}
use Rattle.cov_pieces.proofs.Walks.{next, as_pieces}
use Rattle.cov_pieces.proofs.statements.body.Goals as goal

pub returns : goal.returns
returns c =
    next c.push.ensures (next (next (as_pieces (ap (λ b. word (truth b) ∷ []) c.has_docstring.ensures) c.truth.ensures) c.heads.ensures) (next c.push-2.ensures (next c.statements.ensures c.push-3.ensures)))
