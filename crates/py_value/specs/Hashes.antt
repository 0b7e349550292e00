-- Hashes of keys, and an index that names the places of a dict's pairs by the hashes of their keys.
use Rattle.std.specs.Prelude.{ℕ, ◌+◌, ◌*◌, ◌%◌, ◌^◌, ◌<◌, ◌≡◌, Bool, false, ◌||◌, nat_eq, IsTrue, List, [], ◌∷◌, ◌++◌, length, get_or, set, Option, Some, None, if◌then◌else◌, slice_get, unsigned_abs}
pub use Rattle.py_text.specs.Hashes.{mixed, hash_of_text}
use Rattle.py_value.specs.Plain.{PlainValue, int_value, str_value, tuple_value, PlainValues, no_values, value_then}
use Rattle.py_value.specs.Keys.{is_same_key}

abbrev mutual
  -- the hash of a value; of all but numbers, texts and tuples it is 0
  pub hash_of : PlainValue → ℕ
  hash_of (int_value n) = unsigned_abs n
  hash_of (str_value s) = hash_of_text s
  hash_of (tuple_value vs) = hash_of_items 1 vs
  hash_of _ = 0

  -- a hash with those of some items mixed in, one by one
  pub hash_of_items : ℕ → PlainValues → ℕ
  hash_of_items hash no_values = hash
  hash_of_items hash (value_then v vs) = hash_of_items (mixed hash (hash_of v)) vs

-- whether a number is among others
abbrev pub is_among : ℕ → List ℕ → Bool
is_among i [] = false
is_among i (k ∷ ks) = nat_eq i k || is_among i ks

-- the places that an index names for a hash
abbrev pub named : List (List ℕ) → ℕ → List ℕ
named index hash = get_or index (hash % length index) []

-- an index with one more place
abbrev pub with_place : List (List ℕ) → ℕ → ℕ → List (List ℕ)
with_place index hash place = set index (hash % length index) (named index hash ++ place ∷ [])

-- that an index, unless it is empty, names each pair's place for its key's hash
abbrev pub IsIndex : List (List ℕ) → List (PlainValue × PlainValue) → Type 0
IsIndex index pairs =
    0 < length index → (i : ℕ) (p : PlainValue × PlainValue) → slice_get pairs i ≡ Some p
    → IsTrue (is_among i (named index (hash_of p.0)))

-- whether a pair, where there is one, has the key
abbrev pub has_key : PlainValue → Option (PlainValue × PlainValue) → Bool
has_key key None = false
has_key key (Some p) = is_same_key key p.0

-- the first of these places whose pair has the key
abbrev pub first_with : PlainValue → List (PlainValue × PlainValue) → List ℕ → Option ℕ
first_with key pairs [] = None
first_with key pairs (i ∷ is) =
    if has_key key (slice_get pairs i) then Some i else first_with key pairs is
