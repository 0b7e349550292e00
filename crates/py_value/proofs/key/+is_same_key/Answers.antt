use Rattle.std.proofs.Common.{ap, sym, ◌∙◌, arith}
use Rattle.std.proofs.lemmas.Grind.{common_steps}
use Rattle.py_value.specs.Plain.{tuple_value}
use Rattle.py_value.specs.View.{plain}
use Rattle.py_value.specs.Keys.{is_same_key}
use Rattle.py_value.proofs.Views.{in_both}
use Rattle.py_value.proofs.Sizes.{smaller_item}
use Rattle.py_text.proofs.SameTexts.{text_test}
use Rattle.py_value.proofs.KeyLaws.{other_length}
use Rattle.py_value.proofs.Hashing.{other_hash}
use Rattle.py_value.proofs.key.+is_same_key.Goals as goal

pub are_same_keys-returns-then-left-right : goal.are_same_keys-returns-then-left-right
are_same_keys-returns-then-left-right t c = sym (other_length c.args.left.now c.args.right.now c.if-left-right.true)

pub is_same_key-returns-in-Str-right : goal.is_same_key-returns-in-Str-right
is_same_key-returns-in-Str-right t c =
    text_test c.is_same.result c.in-Str.s c.in-Str-right.t c.is_same.ensures
    ∙ sym (in_both is_same_key _ _ _ _ (ap plain c.in-Str.is) (ap plain c.in-Str-right.is))

pub is_same_key-returns-else-hash : goal.is_same_key-returns-else-hash
is_same_key-returns-else-hash t c =
    sym (other_hash (tuple_value c.in-Tuple.items) (tuple_value c.in-Tuple-right.others) (λ e. c.if-hash.false (c.hash.ensures ∙ e ∙ sym c.hash-in-Tuple-right.ensures)))
    ∙ sym (in_both is_same_key _ _ _ _ (ap plain c.in-Tuple.is) (ap plain c.in-Tuple-right.is))

pub are_same_keys-is_same_key-requires : goal.are_same_keys-is_same_key-requires
are_same_keys-is_same_key-requires t c = (omega (arith, smaller_item c.args.left.now c.loop-i.i c.index-left-i.result c.loop-i-test.true c.index-left-i.is), tt)

pub are_same_keys-loop-i-preserved : goal.are_same_keys-loop-i-preserved
are_same_keys-loop-i-preserved t c = grind (arith, common_steps)

pub are_same_keys-returns-then-not-is_same_key : goal.are_same_keys-returns-then-not-is_same_key
are_same_keys-returns-then-not-is_same_key t c = grind (arith, common_steps)

pub are_same_keys-returns : goal.are_same_keys-returns
are_same_keys-returns t c = grind (arith, common_steps)
