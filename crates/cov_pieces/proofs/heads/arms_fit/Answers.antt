use Rattle.std.proofs.Common.{[], ◌∷◌, refl, ap}
use Rattle.py_syntax.specs.declared.stmt.Arm.{out-Arm}
use Rattle.py_syntax.specs.View.{plain_suite, plain_arms}
use Rattle.py_scope.proofs.Forms.{plain-arms}
use Rattle.cov_pieces.specs.Pieces.{word, words, suite_fit, arms_fit}
use Rattle.cov_pieces.proofs.Walks.{begun, turns, ends_with}
use Rattle.cov_pieces.proofs.heads.arms_fit.Goals as goal

pub loop-arm-init : goal.loop-arm-init
loop-arm-init c =
    begun refl

pub loop-arm-preserved : goal.loop-arm-preserved
loop-arm-preserved c =
    turns (λ xs. words (arms_fit (plain_arms xs))) (λ xs. words (arms_fit (plain_arms xs)))
    (λ x. word (suite_fit (plain_suite (out-Arm x).body)) ∷ []) (λ x xs. ap (λ z. words (arms_fit z)) (plain-arms x xs))
    c.args.items.now c.loop-arm.arm-index c.arm-item.result c.loop-arm-test.true c.arm-item.is (c.suite_fit.ensures) c.loop-arm.invariant

pub returns : goal.returns
returns c =
    ends_with (λ xs. words (arms_fit (plain_arms xs))) c.args.items.now _ c.loop-arm-test.false refl c.number.ensures c.loop-arm.invariant
