-- The keys of a dict: texts, whole numbers, None, and tuples of keys. A bool is no key.
--     is_key, are_keys                       what may be a key
--     is_same_text .. are_same_keys          two keys are one
--     place_of_key, value_at, with_value     a key among the pairs of a dict
--     has_none_same .. is_sound_heap         each key of a dict is one, and stands once
use Rattle.std.specs.Prelude.{ℕ, suc, Bool, true, false, ◌&&◌, not, if◌then◌else◌, List, [], ◌∷◌, Option, Some, None, nat_eq}
use Rattle.std.specs.Ordering.{int_eq}
use Rattle.std.specs.Option.{option_map}
pub use Rattle.py_text.specs.Comparison.{is_same_text}
use Rattle.py_value.specs.Plain.{PlainValue, none_value, int_value, str_value, tuple_value, PlainValues, no_values, value_then, PlainObject, list_object, dict_object, PlainHeap}

abbrev mutual
  -- whether a value may be a key
  pub is_key : PlainValue → Bool
  is_key none_value = true
  is_key (int_value n) = true
  is_key (str_value s) = true
  is_key (tuple_value vs) = are_keys vs
  is_key _ = false

  -- whether each item of a tuple may be a key
  pub are_keys : PlainValues → Bool
  are_keys no_values = true
  are_keys (value_then v vs) = is_key v && are_keys vs

abbrev mutual
  -- whether two keys are the same; a value that is no key is the same as none
  pub is_same_key : PlainValue → PlainValue → Bool
  is_same_key none_value none_value = true
  is_same_key (int_value m) (int_value n) = int_eq m n
  is_same_key (str_value s) (str_value t) = is_same_text s t
  is_same_key (tuple_value vs) (tuple_value ws) = are_same_keys vs ws
  is_same_key _ _ = false

  -- whether two tuples have the same keys, item by item
  pub are_same_keys : PlainValues → PlainValues → Bool
  are_same_keys no_values no_values = true
  are_same_keys (value_then v vs) (value_then w ws) = is_same_key v w && are_same_keys vs ws
  are_same_keys _ _ = false

-- the place of a key among pairs, counted from 0
abbrev pub place_of_key : PlainValue → List (PlainValue × PlainValue) → Option ℕ
place_of_key key [] = None
place_of_key key (p ∷ ps) =
    if is_same_key key p.0 then Some 0 else option_map (λ i. suc i) (place_of_key key ps)

-- the value that pairs have for a key
abbrev pub value_at : PlainValue → List (PlainValue × PlainValue) → Option PlainValue
value_at key [] = None
value_at key (p ∷ ps) = if is_same_key key p.0 then Some p.1 else value_at key ps

-- the pairs with a key's value set: a present key keeps its place, and a new one goes last
abbrev pub with_value : PlainValue → PlainValue → List (PlainValue × PlainValue)
    → List (PlainValue × PlainValue)
with_value key v [] = (key, v) ∷ []
with_value key v (p ∷ ps) = if is_same_key key p.0 then (p.0, v) ∷ ps else p ∷ with_value key v ps

-- whether no two pairs have the same key
abbrev pub has_none_same : PlainValue → List (PlainValue × PlainValue) → Bool
has_none_same key [] = true
has_none_same key (p ∷ ps) = not (is_same_key p.0 key) && has_none_same key ps

-- whether no key stands twice
abbrev pub has_distinct_keys : List (PlainValue × PlainValue) → Bool
has_distinct_keys [] = true
has_distinct_keys (p ∷ ps) = has_none_same p.0 ps && has_distinct_keys ps

-- whether each pair's key may be one
abbrev pub has_only_keys : List (PlainValue × PlainValue) → Bool
has_only_keys [] = true
has_only_keys (p ∷ ps) = is_key p.0 && has_only_keys ps

-- whether the keys of a dict are keys, each once
abbrev pub is_sound_object : PlainObject → Bool
is_sound_object (list_object vs) = true
is_sound_object (dict_object ps) = has_only_keys ps && has_distinct_keys ps

-- whether the keys of each dict may be keys, and are distinct
abbrev pub is_sound_heap : PlainHeap → Bool
is_sound_heap [] = true
is_sound_heap (o ∷ os) = is_sound_object o && is_sound_heap os
