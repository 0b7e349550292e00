use Rattle.std.proofs.Common.{refl}
use Rattle.py_syntax.specs.View.{plain_stmts}
use Rattle.cov_pieces.specs.Pieces.{words, heads}
use Rattle.cov_pieces.proofs.Steps.{head_words, heads-step}
use Rattle.cov_pieces.proofs.Walks.{next, number_is, begun, turns, ends}
use Rattle.cov_pieces.proofs.heads.heads.Goals as goal

pub loop-s-init : goal.loop-s-init
loop-s-init c =
    begun refl

pub loop-s-preserved : goal.loop-s-preserved
loop-s-preserved c =
    turns (λ xs. words (heads (plain_stmts xs))) (λ xs. words (heads (plain_stmts xs)))
    (λ x. words (head_words x)) (λ x xs. heads-step x xs)
    c.args.items.now c.loop-s.s-index c.s-item.result c.loop-s-test.true c.s-item.is (next c.number.ensures (number_is c.kind_number.ensures c.number-in-loop-s.ensures)) c.loop-s.invariant

pub returns : goal.returns
returns c =
    ends (λ xs. words (heads (plain_stmts xs))) c.args.items.now _ c.loop-s-test.false refl c.loop-s.invariant
