use Rattle.std.proofs.Common.{[], ◌∷◌, refl}
use Rattle.cov_pieces.specs.Pieces.{words}
use Rattle.cov_pieces.specs.Words.{a_number, a_text, texts_words}
use Rattle.cov_pieces.proofs.Walks.{next, begun, turns, ends_with}
use Rattle.cov_pieces.proofs.expressions.texts.Goals as goal

pub loop-x-init : goal.loop-x-init
loop-x-init c =
    begun refl

pub loop-x-preserved : goal.loop-x-preserved
loop-x-preserved c =
    turns (λ xs. words (texts_words xs)) (λ xs. words (texts_words xs)) (λ x. words (a_number 1 ∷ a_text x ∷ [])) (λ x xs. refl)
    c.args.items.now c.loop-x.x-index c.x-item.result c.loop-x-test.true c.x-item.is (next c.number.ensures c.push.ensures) c.loop-x.invariant

pub returns : goal.returns
returns c =
    ends_with (λ xs. words (texts_words xs)) c.args.items.now _ c.loop-x-test.false refl c.number-2.ensures c.loop-x.invariant
