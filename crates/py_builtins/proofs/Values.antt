-- Displays of values, step by step.
use Rattle.std.proofs.Common.{◌≡◌, ℕ, zero, suc, ◌-◌, ◌<◌, Bool, false, List, [], ◌∷◌, ◌++◌, codes, length, map, get_or, Result, Some, refl, ap, sym, ◌∙◌, arith, if◌then◌else◌, unwrap_or}
use Rattle.std.specs.List.{slice_get}
use Rattle.std.specs.Option.{option_map}
use Rattle.std.proofs.lemmas.Option.{slice_get-map, slice_get-get_or, slice_get_read, slice_get_within}
use Rattle.std.proofs.lemmas.List.{length-map}
use Rattle.py_value.specs.declared.value.Value.{Value}
use Rattle.py_value.specs.Heaps.{list_items, dict_pairs, pairs_of, values_of}
use Rattle.py_value.specs.Plain.{PlainValue, none_value, list_at, dict_at, PlainHeap, PlainObject, list_object, dict_object}
use Rattle.py_value.specs.View.{plain, plains}
use Rattle.py_builtins.specs.declared.writer.Stop.{Stop}
use Rattle.py_builtins.specs.Displays.{has, list_display, dict_display, display_step}
use Rattle.py_builtins.specs.Texts.{display_within, display_around, text_within, text_step}
use Rattle.py_builtins.specs.Writing.{Writing, whole, broken}
use Rattle.py_builtins.specs.Written.{IsWritten}
use Rattle.py_builtins.proofs.Pieces.{written_same}

pub display_none : (n : ℕ) (h : PlainHeap) (inside : List ℕ) (v : PlainValue) → n ≡ 0 → broken [] ≡ display_within n h inside v
unfolding display_within
display_none zero h inside v e = refl
display_none (suc n) h inside v e = absurd (omega arith)

pub display_more : (n : ℕ) (h : PlainHeap) (inside : List ℕ) (v : PlainValue) → (n ≡ 0 → ⊥) → display_step (display_within (n - 1) h) h inside v ≡ display_within n h inside v
unfolding display_within
display_more zero h inside v e = absurd (e refl)
display_more (suc n) h inside v e = let f : suc n - 1 ≡ n = omega arith in ap (λ k. display_step (display_within k h) h inside v) f

-- a list or a dict that is entered
entered : (r : Result (Unit {0}) Stop) (a b : List ℕ) (t : Bool) (w v : Writing) → t ≡ false → IsWritten r a b v → IsWritten r a b (if t then w else v)
entered r a b t w v e h = written_same r a b v (if t then w else v) (sym (ap (λ (x : Bool). let y : Writing = (if x then w else v) in y) e)) h

pub list_entered : (r : Result (Unit {0}) Stop) (a b : List ℕ) (levels : ℕ) (h : PlainHeap) (inside now : List ℕ) (place : ℕ) (vs : List PlainValue) → has place inside ≡ false → now ≡ inside ++ place ∷ [] → vs ≡ list_items h place
    → IsWritten r a b (list_display (display_within levels h now) vs) → IsWritten r a b (display_around levels h inside (list_at place))
list_entered r a b levels h inside now place vs e f g w =
    let items = list_display (display_within levels h (inside ++ place ∷ [])) in
    entered r a b (has place inside) (whole (codes "[...]")) (items (list_items h place)) e
    (written_same r a b (list_display (display_within levels h now) vs) (items (list_items h place)) (ap (λ is. list_display (display_within levels h is) vs) f ∙ ap items g) w)

pub dict_entered : (r : Result (Unit {0}) Stop) (a b : List ℕ) (levels : ℕ) (h : PlainHeap) (inside now : List ℕ) (place : ℕ) → has place inside ≡ false → now ≡ inside ++ place ∷ []
    → IsWritten r a b (dict_display (display_within levels h now) (dict_pairs h place)) → IsWritten r a b (display_around levels h inside (dict_at place))
dict_entered r a b levels h inside now place e f w =
    let shown : List ℕ → Writing = λ is. dict_display (display_within levels h is) (dict_pairs h place) in
    entered r a b (has place inside) (whole (codes "{...}")) (shown (inside ++ place ∷ [])) e
    (written_same r a b (shown now) (shown (inside ++ place ∷ [])) (ap shown f) w)

-- an item of a list, as the code reads it
pub item_at : (vs : List Value) (i : ℕ) (v : Value) → i < length vs → v ≡ get_or vs i v → slice_get (plains vs) i ≡ Some (plain v)
item_at vs i v l e = slice_get-map plain vs i ∙ ap (λ o. option_map plain o) (slice_get_read vs (length vs) i v refl l e)

pub some_item : (vs : List Value) (i : ℕ) → i < length vs → slice_get (plains vs) i ≡ Some (get_or (plains vs) i none_value)
some_item vs i l = slice_get-get_or (plains vs) i none_value (omega (arith, length-map vs plain))

-- the key and the value of a pair
some_same : {A : Type 0} (d x y : A) → Some x ≡ Some y → x ≡ y
some_same d x y e = ap (λ o. unwrap_or o d) e

pub key_of_pair : (ps : List (PlainValue × PlainValue)) (at : ℕ) (p : PlainValue × PlainValue) (k : PlainValue) → slice_get ps at ≡ Some p → slice_get (map (λ q. q.0) ps) at ≡ Some k → k ≡ p.0
key_of_pair ps at p k h e =
    some_same k k p.0 (sym e ∙ slice_get-map (λ (q : PlainValue × PlainValue). q.0) ps at ∙ ap (λ o. option_map (λ (q : PlainValue × PlainValue). q.0) o) h)

value_of_pairs : (ps : List (PlainValue × PlainValue)) (at : ℕ) (p : PlainValue × PlainValue) (v : PlainValue) → slice_get ps at ≡ Some p → slice_get (map (λ q. q.1) ps) at ≡ Some v → v ≡ p.1
value_of_pairs ps at p v h e =
    some_same v v p.1 (sym e ∙ slice_get-map (λ (q : PlainValue × PlainValue). q.1) ps at ∙ ap (λ o. option_map (λ (q : PlainValue × PlainValue). q.1) o) h)

pub value_of_pair : (o : PlainObject) (at : ℕ) (p : PlainValue × PlainValue) (v : PlainValue) → slice_get (pairs_of o) at ≡ Some p → slice_get (values_of o) at ≡ Some v → v ≡ p.1
value_of_pair (list_object vs) at p v h e = let none : List (PlainValue × PlainValue) = [] in absurd (omega (arith, slice_get_within none at p h))
value_of_pair (dict_object ps) at p v h e = value_of_pairs ps at p v h e

pub text_none : (n : ℕ) (h : PlainHeap) (v : PlainValue) → n ≡ 0 → broken [] ≡ text_within n h v
unfolding text_within
text_none zero h v e = refl
text_none (suc n) h v e = absurd (omega arith)

pub text_more : (n : ℕ) (h : PlainHeap) (v : PlainValue) → (n ≡ 0 → ⊥) → text_step (text_within (n - 1) h) (display_within (n - 1) h) h v ≡ text_within n h v
unfolding text_within
text_more zero h v e = absurd (e refl)
text_more (suc n) h v e = let f : suc n - 1 ≡ n = omega arith in ap (λ k. text_step (text_within k h) (display_within k h) h v) f
