-- The place of a key in a dict.
use Rattle.std.proofs.Common.{◌≡◌, ℕ, suc, ◌<◌, Bool, true, false, cond, List, [], ◌∷◌, map, length, Option, Some, None, Ok, refl, ap, sym, ◌∙◌, arith}
use Rattle.std.proofs.Math.ListN.{set}
use Rattle.std.specs.List.{remove, slice_get}
use Rattle.std.specs.Option.{option_map}
use Rattle.py_value.specs.declared.cause.Cause.TheVariants.{UnhashableKey}
use Rattle.py_value.specs.Heaps.{object_at, pairs_of, values_of, length_of, with_pairs, dict_pairs, change, without}
use Rattle.py_value.specs.Keys.{is_key, is_same_key, place_of_key, value_at}
use Rattle.py_value.specs.Plain.{PlainValue, PlainObject, list_object, dict_object, PlainHeap}
use Rattle.py_builtins.specs.Arguments.{Answer, raises}
use Rattle.py_builtins.specs.Methods.{without_key, take_value, with_key}

abbrev place : Option ℕ → ℕ
place None = 0
place (Some k) = k

-- where the first pair has the key or not
abbrev from_here : Bool → Option ℕ → Option ℕ
from_here b o = cond b (Some 0) (option_map (λ i. suc i) o)

inside_from : (b : Bool) (o : Option ℕ) (n k : ℕ) → ((j : ℕ) → o ≡ Some j → j < n) → from_here b o ≡ Some k → k < suc n
inside_from true o n k h e = let f : 0 ≡ k = ap place e in omega (arith, f)
inside_from false None n k h e = absurd (cc)
inside_from false (Some j) n k h e = let f : suc j ≡ k = ap place e in let g : j < n = h j refl in omega (arith, f, g)

pub place_inside : (key : PlainValue) (ps : List (PlainValue × PlainValue)) (k : ℕ) → place_of_key key ps ≡ Some k → k < length ps
place_inside key [] k e = absurd (cc)
place_inside key (p ∷ ps) k e = inside_from (is_same_key key p.0) (place_of_key key ps) (length ps) k (λ j f. place_inside key ps j f) e

value_from : (b : Bool) (o : Option ℕ) (v : PlainValue) (rest : Option PlainValue) (vs : List PlainValue) (k : ℕ) → ((j : ℕ) → o ≡ Some j → rest ≡ slice_get vs j) → from_here b o ≡ Some k → cond b (Some v) rest ≡ slice_get (v ∷ vs) k
value_from true o v rest vs k h e = ap (slice_get (v ∷ vs)) (ap place e)
value_from false None v rest vs k h e = absurd (cc)
value_from false (Some j) v rest vs k h e = h j refl ∙ ap (slice_get (v ∷ vs)) (ap place e)

pub value_there : (key : PlainValue) (ps : List (PlainValue × PlainValue)) (k : ℕ) → place_of_key key ps ≡ Some k → value_at key ps ≡ slice_get (map (λ p. p.1) ps) k
value_there key [] k e = absurd (cc)
value_there key (p ∷ ps) k e = value_from (is_same_key key p.0) (place_of_key key ps) p.1 (value_at key ps) (map (λ p. p.1) ps) k (λ j f. value_there key ps j f) e

closed_from : (b : Bool) (o : Option ℕ) (p : PlainValue × PlainValue) (rest ps : List (PlainValue × PlainValue)) (k : ℕ) → ((j : ℕ) → o ≡ Some j → rest ≡ remove ps j) → from_here b o ≡ Some k → cond b ps (p ∷ rest) ≡ remove (p ∷ ps) k
closed_from true o p rest ps k h e = ap (remove (p ∷ ps)) (ap place e)
closed_from false None p rest ps k h e = absurd (cc)
closed_from false (Some j) p rest ps k h e = ap (λ qs. p ∷ qs) (h j refl) ∙ ap (remove (p ∷ ps)) (ap place e)

pub closed_up : (key : PlainValue) (ps : List (PlainValue × PlainValue)) (k : ℕ) → place_of_key key ps ≡ Some k → without_key key ps ≡ remove ps k
closed_up key [] k e = absurd (cc)
closed_up key (p ∷ ps) k e = closed_from (is_same_key key p.0) (place_of_key key ps) p (without_key key ps) ps k (λ j f. closed_up key ps j f) e

absent_from : (b : Bool) (o : Option ℕ) (v rest : Option PlainValue) → (o ≡ None → rest ≡ None) → from_here b o ≡ None → cond b v rest ≡ None
absent_from true o v rest h e = absurd (cc)
absent_from false None v rest h e = h refl
absent_from false (Some j) v rest h e = absurd (cc)

pub value_absent : (key : PlainValue) (ps : List (PlainValue × PlainValue)) → place_of_key key ps ≡ None → value_at key ps ≡ None
value_absent key [] e = refl
value_absent key (p ∷ ps) e = absent_from (is_same_key key p.0) (place_of_key key ps) (Some p.1) (value_at key ps) (λ f. value_absent key ps f) e

-- the object with the pair taken out
pub pairs_inside : (o : PlainObject) (k : ℕ) → k < length (pairs_of o) → k < length_of o
pairs_inside (list_object vs) k l = absurd (omega (arith, l))
pairs_inside (dict_object ps) k l = l

values_of_pairs : (o : PlainObject) (k : ℕ) → k < length (pairs_of o) → values_of o ≡ map (λ p. p.1) (pairs_of o)
values_of_pairs (list_object vs) k l = absurd (omega (arith, l))
values_of_pairs (dict_object ps) k l = refl

object_popped : (o : PlainObject) (key : PlainValue) (k : ℕ) → place_of_key key (pairs_of o) ≡ Some k → without k o ≡ with_pairs (without_key key) o
object_popped (list_object vs) key k e = absurd (cc)
object_popped (dict_object ps) key k e = ap dict_object (sym (closed_up key ps k e))

-- a present key is taken out
pub popped : (h new : PlainHeap) (a k : ℕ) (key v : PlainValue) (absent : Answer) → is_key key ≡ true → place_of_key key (dict_pairs h a) ≡ Some k → slice_get (values_of (object_at h a)) k ≡ Some v → new ≡ change h a (without k)
    → Ok (v, new) ≡ with_key key (take_value a h key (value_at key (dict_pairs h a)) absent)
popped h new a k key v absent t e s n =
    ap (λ (m : PlainHeap). Ok (v, m)) (n ∙ ap (set h a) (object_popped (object_at h a) key k e))
    ∙ ap (λ o. take_value a h key o absent) (sym (value_there key (dict_pairs h a) k e ∙ ap (λ vs. slice_get vs k) (sym (values_of_pairs (object_at h a) k (place_inside key (dict_pairs h a) k e))) ∙ s))
    ∙ ap (λ b. cond b (take_value a h key (value_at key (dict_pairs h a)) absent) (raises UnhashableKey)) (sym t)

-- an absent key
pub not_found : (h : PlainHeap) (a : ℕ) (key : PlainValue) (absent : Answer) → is_key key ≡ true → place_of_key key (dict_pairs h a) ≡ None → absent ≡ with_key key (take_value a h key (value_at key (dict_pairs h a)) absent)
not_found h a key absent t e =
    ap (λ o. take_value a h key o absent) (sym (value_absent key (dict_pairs h a) e))
    ∙ ap (λ b. cond b (take_value a h key (value_at key (dict_pairs h a)) absent) (raises UnhashableKey)) (sym t)
