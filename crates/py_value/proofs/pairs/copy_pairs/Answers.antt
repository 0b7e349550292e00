use Rattle.std.proofs.Common.{◌≡◌, refl, [], map, ap, ◌∙◌}
use Rattle.py_value.specs.Pairs.{plain_pair}
use Rattle.py_value.specs.Plain.{PlainValue}
use Rattle.py_value.specs.View.{plain}
use Rattle.py_value.specs.declared.pairs.Pair.{Pair}
use Rattle.py_value.proofs.Lists.{at_end, at_step}
use Rattle.py_value.proofs.pairs.copy_pairs.Goals as goal

-- a pair is seen as another where its key and its value are
same_pair : (p q : Pair) → plain p.key ≡ plain q.key → plain p.value ≡ plain q.value → plain_pair p ≡ plain_pair q
same_pair p q e f =
    ap (λ k. let r : PlainValue × PlainValue = (k, plain p.value) in r) e ∙ ap (λ v. let r : PlainValue × PlainValue = (plain q.key, v) in r) f

pub loop-pair-preserved : goal.loop-pair-preserved
loop-pair-preserved c =
    let new : Pair = record { key = c.in_ok-key.key; value = c.in_ok-value.value } in
    at_step plain_pair c.loop-pair.copies.items c.push.new.self.items new c.args.pairs.now c.pair-item.result c.loop-pair.pair-index (map plain_pair c.args.pairs.now) c.in_ok-push.ensures.items
    (same_pair new c.pair-item.result c.in_ok-key.ensures c.in_ok-value.ensures) c.loop-pair-test.true c.pair-item.is c.loop-pair.invariant

pub returns : goal.returns
returns c = at_end (map plain_pair) refl (map plain_pair c.loop-pair.copies.items) [] c.args.pairs.now c.loop-pair.pair-index c.loop-pair-test.false c.loop-pair.invariant
