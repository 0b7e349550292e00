use Rattle.std.proofs.Common.{[], ◌∷◌, refl}
use Rattle.cov_pieces.specs.Pieces.{declared, declaring}
use Rattle.cov_pieces.proofs.Walks.{begun, turns, ends}
use Rattle.cov_pieces.proofs.heads.declarations.Goals as goal

pub loop-x-init : goal.loop-x-init
loop-x-init c =
    begun refl

pub loop-x-preserved : goal.loop-x-preserved
loop-x-preserved c =
    turns (λ xs. declaring xs) (λ xs. declaring xs)
    (λ x. declared x ∷ []) (λ x xs. refl)
    c.args.names.now c.loop-x.x-index c.x-item.result c.loop-x-test.true c.x-item.is (c.push.ensures) c.loop-x.invariant

pub returns : goal.returns
returns c =
    ends (λ xs. declaring xs) c.args.names.now _ c.loop-x-test.false refl c.loop-x.invariant
