use Rattle.std.proofs.Common.{◌+◌, drop, refl, arith}
use Rattle.py_text.specs.Comparison.{is_same_text}
use Rattle.py_changes.specs.Same.{same_texts}
use Rattle.cov_changed.proofs.Pairs.{at_items, is_done}
use Rattle.cov_changed.proofs.SilenceLaws.{unlike-texts, carries, all_done}
use Rattle.cov_changed.proofs.texts.are_same.Goals as goal

pub returns-then-xs-ys : goal.returns-then-xs-ys
returns-then-xs-ys c = unlike-texts c.args.xs.now c.args.ys.now c.if-xs-ys.true

pub loop-i-preserved : goal.loop-i-preserved
loop-i-preserved c = (
  c.loop-i.invariant.0,
  carries c.loop-i.all _ _ _ (same_texts (drop (c.loop-i.i + 1) c.args.xs.now) (drop (c.loop-i.i + 1) c.args.ys.now)) _ _
      (at_items same_texts is_same_text (λ x y xs ys. refl) c.args.xs.now c.args.ys.now c.loop-i.i c.index-xs-i.result c.index-ys-i.result (omega arith) (omega arith) c.index-xs-i.is c.index-ys-i.is)
      c.is_same.ensures c.hold-all.ensures c.loop-i.invariant.1,
)

pub returns : goal.returns
returns c =
    all_done c.loop-i.all _ _ (is_done same_texts refl c.args.xs.now c.args.ys.now c.loop-i.i (omega arith) (omega arith)) c.loop-i.invariant.1
