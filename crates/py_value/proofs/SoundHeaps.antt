-- The keys of each dict of a heap may be keys, and are distinct.
use Rattle.std.proofs.Common.{List, [], ◌∷◌, IsTrue, ◌&&◌, refl}
use Rattle.py_value.specs.declared.heap.Object.{Object}
use Rattle.py_value.specs.declared.heap.Object.TheVariants.{List as ListObject, Dict as DictObject}
use Rattle.py_value.specs.Objects.{plain_pairs, plain_objects}
use Rattle.py_value.specs.Keys.{has_only_keys, has_distinct_keys, is_sound_heap}
use Rattle.py_text.proofs.TestLaws.{both_true}

pub sound_objects : (os : List Object) → IsTrue (is_sound_heap (plain_objects os))
sound_objects [] = refl
sound_objects (ListObject vs ∷ os) = sound_objects os
sound_objects (DictObject ps ∷ os) =
    both_true (has_only_keys (plain_pairs ps) && has_distinct_keys (plain_pairs ps)) (is_sound_heap (plain_objects os))
    (both_true (has_only_keys (plain_pairs ps)) (has_distinct_keys (plain_pairs ps)) ps.only_keys ps.distinct_keys)
    (sound_objects os)
