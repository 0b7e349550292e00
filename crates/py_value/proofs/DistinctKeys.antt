-- Pairs with distinct keys, as the code changes them.
use Rattle.std.proofs.Common.{◌≡◌, ℕ, zero, suc, ◌<◌, Bool, true, false, ◌&&◌, not, cond, IsTrue, List, [], ◌∷◌, ◌++◌, map, length, get_or, Option, Some, None, refl, ap, sym, ◌∙◌, arith}
use Rattle.std.proofs.Math.ListN.{set}
use Rattle.std.proofs.lemmas.List.{map-append, length-map}
use Rattle.std.specs.List.{remove, slice_get}
use Rattle.std.specs.Option.{option_map}
use Rattle.py_value.specs.declared.pairs.Pair.{Pair}
use Rattle.py_value.specs.declared.value.Value.{Value}
use Rattle.py_value.specs.Plain.{PlainValue, PlainObject, list_object, dict_object}
use Rattle.py_value.specs.Heaps.{is_list_object, pairs_of, values_of, length_of}
use Rattle.py_value.specs.View.{plain}
use Rattle.py_value.specs.Pairs.{plain_pair}
use Rattle.py_value.specs.Keys.{is_same_key, place_of_key, value_at, with_value, has_none_same, has_distinct_keys}
use Rattle.py_text.proofs.TestLaws.{both_true, first_true, second_true, not_true}

-- where a key was looked for: here, or after
here : (b : Bool) (o : Option ℕ) → cond b (Some 0) (option_map (λ i. suc i) o) ≡ None → (b ≡ false) × (o ≡ None)
here true o e = absurd (cc)
here false None e = (refl, refl)
here false (Some i) e = absurd (cc)

none-append : (k : PlainValue) (qs : List (PlainValue × PlainValue)) (r : PlainValue × PlainValue) → IsTrue (has_none_same k qs) → is_same_key r.0 k ≡ false → IsTrue (has_none_same k (qs ++ r ∷ []))
none-append k [] r h e = both_true (not (is_same_key r.0 k)) true (not_true (is_same_key r.0 k) e) refl
none-append k (q ∷ qs) r h e = both_true (not (is_same_key q.0 k)) _ (first_true (not (is_same_key q.0 k)) _ h) (none-append k qs r (second_true (not (is_same_key q.0 k)) _ h) e)

-- a pair with a new key at the end
pub distinct-append : (ps : List (PlainValue × PlainValue)) (r : PlainValue × PlainValue) → IsTrue (has_distinct_keys ps) → place_of_key r.0 ps ≡ None → IsTrue (has_distinct_keys (ps ++ r ∷ []))
distinct-append [] r h e = refl
distinct-append (p ∷ ps) r h e =
    let w : (is_same_key r.0 p.0 ≡ false) × (place_of_key r.0 ps ≡ None) = here (is_same_key r.0 p.0) (place_of_key r.0 ps) e in
    both_true (has_none_same p.0 (ps ++ r ∷ [])) _ (none-append p.0 ps r (first_true (has_none_same p.0 ps) _ h) w.0) (distinct-append ps r (second_true (has_none_same p.0 ps) _ h) w.1)

-- the code's push, which may find no memory
pub distinct-pushed : (b : Bool) (ps : List Pair) (r : Pair) → IsTrue (has_distinct_keys (map plain_pair ps)) → place_of_key (plain r.key) (map plain_pair ps) ≡ None
    → IsTrue (has_distinct_keys (map plain_pair (cond b (ps ++ r ∷ []) ps)))
distinct-pushed true ps r h e = ap has_distinct_keys (map-append plain_pair ps (r ∷ [])) ∙ distinct-append (map plain_pair ps) (plain_pair r) h e
distinct-pushed false ps r h e = h

pub with_value-new : (k v : PlainValue) (ps : List (PlainValue × PlainValue)) → place_of_key k ps ≡ None → with_value k v ps ≡ ps ++ (k, v) ∷ []
with_value-new k v [] e = refl
with_value-new k v (p ∷ ps) e =
    let w : (is_same_key k p.0 ≡ false) × (place_of_key k ps ≡ None) = here (is_same_key k p.0) (place_of_key k ps) e in
    ap (λ b. cond b ((p.0, v) ∷ ps) (p ∷ with_value k v ps)) w.0 ∙ ap (λ qs. p ∷ qs) (with_value-new k v ps w.1)

-- a pair with another value
abbrev pub revalued : Pair → Value → Pair
revalued o v = record { key = o.key; value = v }

none-set : (k : PlainValue) (ps : List Pair) (i : ℕ) (o : Pair) (v : Value) → o ≡ get_or ps i o → has_none_same k (map plain_pair (set ps i (revalued o v))) ≡ has_none_same k (map plain_pair ps)
none-set k [] i o v e = refl
none-set k (p ∷ ps) zero o v e = ap (λ (q : Pair). not (is_same_key (plain q.key) k) && has_none_same k (map plain_pair ps)) e
none-set k (p ∷ ps) (suc i) o v e = ap (λ b. not (is_same_key (plain p.key) k) && b) (none-set k ps i o v e)

-- one value replaced
pub distinct-set : (ps : List Pair) (i : ℕ) (o : Pair) (v : Value) → o ≡ get_or ps i o → has_distinct_keys (map plain_pair (set ps i (revalued o v))) ≡ has_distinct_keys (map plain_pair ps)
distinct-set [] i o v e = refl
distinct-set (p ∷ ps) zero o v e = ap (λ (q : Pair). has_none_same (plain q.key) (map plain_pair ps) && has_distinct_keys (map plain_pair ps)) e
distinct-set (p ∷ ps) (suc i) o v e =
    ap (λ b. b && has_distinct_keys (map plain_pair (set ps i (revalued o v)))) (none-set (plain p.key) ps i o v e)
    ∙ ap (λ b. has_none_same (plain p.key) (map plain_pair ps) && b) (distinct-set ps i o v e)

found_here : (b : Bool) (o : Option ℕ) (i : ℕ) → cond b (Some 0) (option_map (λ k. suc k) o) ≡ Some (suc i) → (b ≡ false) × (o ≡ Some i)
found_here true o i e = absurd (cc)
found_here false None i e = absurd (cc)
found_here false (Some k) i e = (refl, cc)

found_first : (b : Bool) (o : Option ℕ) → cond b (Some 0) (option_map (λ k. suc k) o) ≡ Some 0 → b ≡ true
found_first true o e = refl
found_first false None e = absurd (cc)
found_first false (Some k) e = absurd (cc)

pub place-inside : (k : PlainValue) (ps : List Pair) (i : ℕ) → Some i ≡ place_of_key k (map plain_pair ps) → i < length ps
place-inside k [] i e = absurd (cc)
place-inside k (p ∷ ps) zero e = omega arith
place-inside k (p ∷ ps) (suc i) e =
    let w : (is_same_key k (plain p.key) ≡ false) × (place_of_key k (map plain_pair ps) ≡ Some i) = found_here (is_same_key k (plain p.key)) (place_of_key k (map plain_pair ps)) i (sym e) in
    let l : i < length ps = place-inside k ps i (sym w.1) in omega arith

pub with_value-present : (k : PlainValue) (v : Value) (ps : List Pair) (i : ℕ) (o : Pair) → o ≡ get_or ps i o → Some i ≡ place_of_key k (map plain_pair ps)
    → map plain_pair (set ps i (revalued o v)) ≡ with_value k (plain v) (map plain_pair ps)
with_value-present k v [] i o f e = absurd (cc)
with_value-present k v (p ∷ ps) zero o f e =
    let w : is_same_key k (plain p.key) ≡ true = found_first (is_same_key k (plain p.key)) (place_of_key k (map plain_pair ps)) (sym e) in
    ap (λ (q : Pair). (plain q.key, plain v) ∷ map plain_pair ps) f ∙ sym (ap (λ b. cond b ((plain p.key, plain v) ∷ map plain_pair ps) (plain_pair p ∷ with_value k (plain v) (map plain_pair ps))) w)
with_value-present k v (p ∷ ps) (suc i) o f e =
    let w : (is_same_key k (plain p.key) ≡ false) × (place_of_key k (map plain_pair ps) ≡ Some i) = found_here (is_same_key k (plain p.key)) (place_of_key k (map plain_pair ps)) i (sym e) in
    ap (λ qs. plain_pair p ∷ qs) (with_value-present k v ps i o f (sym w.1)) ∙ sym (ap (λ b. cond b ((plain p.key, plain v) ∷ map plain_pair ps) (plain_pair p ∷ with_value k (plain v) (map plain_pair ps))) w.0)

none-remove : (k : PlainValue) (ps : List (PlainValue × PlainValue)) (i : ℕ) → IsTrue (has_none_same k ps) → IsTrue (has_none_same k (remove ps i))
none-remove k [] zero h = refl
none-remove k [] (suc i) h = refl
none-remove k (p ∷ ps) zero h = second_true (not (is_same_key p.0 k)) _ h
none-remove k (p ∷ ps) (suc i) h = both_true (not (is_same_key p.0 k)) _ (first_true (not (is_same_key p.0 k)) _ h) (none-remove k ps i (second_true (not (is_same_key p.0 k)) _ h))

-- one pair removed
pub distinct-remove : (ps : List (PlainValue × PlainValue)) (i : ℕ) → IsTrue (has_distinct_keys ps) → IsTrue (has_distinct_keys (remove ps i))
distinct-remove [] zero h = refl
distinct-remove [] (suc i) h = refl
distinct-remove (p ∷ ps) zero h = second_true (has_none_same p.0 ps) _ h
distinct-remove (p ∷ ps) (suc i) h = both_true (has_none_same p.0 (remove ps i)) _ (none-remove p.0 ps i (first_true (has_none_same p.0 ps) _ h)) (distinct-remove ps i (second_true (has_none_same p.0 ps) _ h))

pub map-remove : {A B : Type 0} (f : A → B) (xs : List A) (i : ℕ) → map f (remove xs i) ≡ remove (map f xs) i
map-remove f [] zero = refl
map-remove f [] (suc i) = refl
map-remove f (x ∷ xs) zero = refl
map-remove f (x ∷ xs) (suc i) = ap (λ ys. f x ∷ ys) (map-remove f xs i)

pub value-removed : (ps : List Pair) (i : ℕ) (o : Pair) → i < length ps → o ≡ get_or ps i o → slice_get (map (λ p. p.1) (map plain_pair ps)) i ≡ Some (plain o.value)
value-removed [] i o l e = absurd (omega arith)
value-removed (p ∷ ps) zero o l e = ap (λ (q : Pair). Some (plain q.value)) (sym e)
value-removed (p ∷ ps) (suc i) o l e = value-removed ps i o (omega arith) e

-- the pair at a place
pub value-at : (ps : List Pair) (i : ℕ) (d : Pair) → i < length ps → slice_get (map (λ p. p.1) (map plain_pair ps)) i ≡ Some (plain (get_or ps i d).value)
value-at [] i d l = absurd (omega arith)
value-at (p ∷ ps) zero d l = refl
value-at (p ∷ ps) (suc i) d l = value-at ps i d (omega arith)

pub key-at : (ps : List Pair) (i : ℕ) (d : Pair) → i < length ps → slice_get (map (λ p. p.0) (map plain_pair ps)) i ≡ Some (plain (get_or ps i d).key)
key-at [] i d l = absurd (omega arith)
key-at (p ∷ ps) zero d l = refl
key-at (p ∷ ps) (suc i) d l = key-at ps i d (omega arith)

-- a dict's value and key at a place, as the code reads them
pub item-of_dict : (o : PlainObject) (ps : List Pair) (i : ℕ) (d : Pair) → is_list_object o ≡ false → map plain_pair ps ≡ pairs_of o → i < length_of o
    → slice_get (values_of o) i ≡ Some (plain (get_or ps i d).value)
item-of_dict (list_object vs) ps i d f e l = absurd (cc)
item-of_dict (dict_object qs) ps i d f e l =
    let inside : i < length ps = omega (arith, ap length e, length-map ps plain_pair) in
    ap (λ (rs : List (PlainValue × PlainValue)). slice_get (map (λ p. p.1) rs) i) (sym e) ∙ value-at ps i d inside

pub key-of_dict : (qs : List (PlainValue × PlainValue)) (ps : List Pair) (i : ℕ) (d : Pair) → map plain_pair ps ≡ qs → i < length qs
    → slice_get (map (λ p. p.0) qs) i ≡ Some (plain (get_or ps i d).key)
key-of_dict qs ps i d e l =
    let inside : i < length ps = omega (arith, ap length e, length-map ps plain_pair) in
    ap (λ (rs : List (PlainValue × PlainValue)). slice_get (map (λ p. p.0) rs) i) (sym e) ∙ key-at ps i d inside

-- the value of a key, from its place
pub value-none : (k : PlainValue) (ps : List (PlainValue × PlainValue)) → place_of_key k ps ≡ None → value_at k ps ≡ None
value-none k [] e = refl
value-none k (p ∷ ps) e =
    let w : (is_same_key k p.0 ≡ false) × (place_of_key k ps ≡ None) = here (is_same_key k p.0) (place_of_key k ps) e in
    ap (λ b. cond b (Some p.1) (value_at k ps)) w.0 ∙ value-none k ps w.1

pub value-some : (k : PlainValue) (ps : List Pair) (i : ℕ) (d : Pair) → place_of_key k (map plain_pair ps) ≡ Some i → value_at k (map plain_pair ps) ≡ Some (plain (get_or ps i d).value)
value-some k [] i d e = absurd (cc)
value-some k (p ∷ ps) zero d e = ap (λ b. cond b (Some (plain p.value)) (value_at k (map plain_pair ps))) (found_first (is_same_key k (plain p.key)) (place_of_key k (map plain_pair ps)) e)
value-some k (p ∷ ps) (suc i) d e =
    let w : (is_same_key k (plain p.key) ≡ false) × (place_of_key k (map plain_pair ps) ≡ Some i) = found_here (is_same_key k (plain p.key)) (place_of_key k (map plain_pair ps)) i e in
    ap (λ b. cond b (Some (plain p.value)) (value_at k (map plain_pair ps))) w.0 ∙ value-some k ps i d w.1
