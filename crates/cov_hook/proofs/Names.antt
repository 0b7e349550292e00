-- The names of units, and which of them are a given one.
use Rattle.std.proofs.Common.{◌≡◌, ℕ, ◌+◌, ◌<◌, List, length, map, Contains, Some, slice_get, get_or, option_map, unwrap_or, refl, sym, ap, subst, ◌∙◌, ⊎_elim, arith}
use Rattle.std.proofs.lemmas.Bool.{cases_eq}
use Rattle.std.proofs.lemmas.List.{length-map}
use Rattle.std.proofs.lemmas.Option.{slice_get-get_or, slice_get-map, slice_get_read, get_or_from_slice_get}
use Rattle.py_code.specs.declared.unit.Unit.{Unit as RawUnit}
use Rattle.py_code.specs.Units.{plain_unit}
use Rattle.cov_hook.specs.Functions.{name_of}

-- the names of units
abbrev pub names_of : List RawUnit → List (List ℕ)
names_of us = map name_of (map plain_unit us)

-- no name before a place is this one
abbrev pub IsNoneBefore : ℕ → List (List ℕ) → List ℕ → Type 0
IsNoneBefore n xs x = (k : ℕ) → k < n → (y : List ℕ) → slice_get xs k ≡ Some y → y ≡ x → ⊥

-- what holds of each number below one, and of that one
one_more : (P : ℕ → Type 0) (i : ℕ) → ((k : ℕ) → k < i → P k) → P i → (k : ℕ) → k < i + 1 → P k
one_more P i before here k lt =
    ⊎_elim (λ e. subst P (sym e) here) (λ n. before k (omega arith)) (cases_eq k i)

-- a unit's name stands at its place
slice_get-names_of : (us : List RawUnit) (i : ℕ) (u : RawUnit) → i < length us → u ≡ get_or us i u
    → slice_get (names_of us) i ≡ Some u.name
slice_get-names_of us i u lt is =
    slice_get-map name_of (map plain_unit us) i
    ∙ ap (option_map name_of)
    (slice_get-map plain_unit us i
    ∙ ap (option_map plain_unit) (slice_get_read us (length us) i u refl lt is))

-- a name that stands at a place is in the list
pub contains_name : (us : List RawUnit) (x : List ℕ) (i : ℕ) (u : RawUnit) → i < length us
    → u ≡ get_or us i u → u.name ≡ x → Contains (names_of us) x
contains_name us x i u lt is e = (
  i,
  subst (λ n. i < n) (sym (length-map (map plain_unit us) name_of ∙ length-map us plain_unit)) lt,
  get_or_from_slice_get (names_of us) i x x (slice_get-names_of us i u lt is ∙ ap Some e),
)

-- neither is it before the next place, where it isn't at this one
pub none_at : (us : List RawUnit) (x : List ℕ) (i : ℕ) (u : RawUnit) → i < length us
    → u ≡ get_or us i u → (u.name ≡ x → ⊥) → IsNoneBefore i (names_of us) x
    → IsNoneBefore (i + 1) (names_of us) x
none_at us x i u lt is differs none =
    one_more (λ k. (y : List ℕ) → slice_get (names_of us) k ≡ Some y → y ≡ x → ⊥) i none
    (λ y found e. differs (ap (λ o. unwrap_or o x) (sym (slice_get-names_of us i u lt is) ∙ found) ∙ e))

-- a name that no place has isn't in the list
pub none_contained : (us : List RawUnit) (x : List ℕ) → IsNoneBefore (length us) (names_of us) x
    → Contains (names_of us) x → ⊥
none_contained us x none h =
    none h.0
    (subst (λ n. h.0 < n) (length-map (map plain_unit us) name_of ∙ length-map us plain_unit) h.1)
    (get_or (names_of us) h.0 x) (slice_get-get_or (names_of us) h.0 x h.1) h.2
