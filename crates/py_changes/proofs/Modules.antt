-- Lists of modules that are compared: their names, and their first worlds.
use Rattle.std.proofs.Common.{◌≡◌, ℕ, zero, suc, nat_eq, false, IsTrue, List, [], ◌∷◌, map, Some, refl, sym, ap, ◌∙◌}
use Rattle.std.specs.Prelude.{if◌then◌else◌}
use Rattle.std.specs.List.{AllByRecursion}
use Rattle.std.proofs.lemmas.Bool.{eq-eqb}
use Rattle.py_value.specs.declared.value.FuncId.{FuncId}
use Rattle.py_text.specs.Comparison.{is_same_text}
use Rattle.py_value.specs.Plain.{str_value}
use Rattle.py_syntax.specs.Tree.{Text}
use Rattle.py_meaning.specs.Modules.{LoadedModule, body_of, name_of, number_from, imported_number}
use Rattle.py_meaning.specs.Program.{no_names, first_world}
use Rattle.py_changes.specs.Changed.{fits_body}
use Rattle.py_changes.specs.Changes.{same_modules, all_fit, is_one_of}
use Rattle.py_changes.proofs.Kept.{SuitAll, GlobalsSuit, WorldSuits}
use Rattle.py_changes.proofs.Lists.{all-weaker, or-false}
use Rattle.py_changes.proofs.SameLaws.{no, both, text-is}

-- ---- the same names

pub name-of : (old new : List LoadedModule) → IsTrue (same_modules old new) → (m : ℕ)
    → name_of old m ≡ name_of new m
name-of [] [] h m = refl
name-of (a ∷ ms) (b ∷ ns) h zero =
    text-is a.name b.name (both (is_same_text a.name b.name) (same_modules ms ns) h).0
name-of (a ∷ ms) (b ∷ ns) h (suc m) =
    name-of ms ns (both (is_same_text a.name b.name) (same_modules ms ns) h).1 m
name-of [] (b ∷ ns) h m = no h
name-of (a ∷ ms) [] h m = no h

number-of : (n : ℕ) (old new : List LoadedModule) → IsTrue (same_modules old new) → (x : Text)
    → number_from n old x ≡ number_from n new x
unfolding number_from
number-of n [] [] h x = refl
number-of n (a ∷ ms) (b ∷ ns) h x =
    let t = both (is_same_text a.name b.name) (same_modules ms ns) h in
    ap (λ y. if is_same_text x y then Some n else number_from (suc n) ms x)
    (text-is a.name b.name t.0)
    ∙ ap (λ o. if is_same_text x b.name then Some n else o) (number-of (suc n) ms ns t.1 x)
number-of n [] (b ∷ ns) h x = no h
number-of n (a ∷ ms) [] h x = no h

pub imported-number : (old new : List LoadedModule) → IsTrue (same_modules old new) → (x : Text)
    → imported_number old x ≡ imported_number new x
imported-number [] [] h x = refl
imported-number (a ∷ ms) (b ∷ ns) h x =
    number-of 1 ms ns (both (is_same_text a.name b.name) (same_modules ms ns) h).1 x
imported-number [] (b ∷ ns) h x = no h
imported-number (a ∷ ms) [] h x = no h

pub first-globals : (old new : List LoadedModule) → IsTrue (same_modules old new)
    → map no_names old ≡ map no_names new
first-globals [] [] h = refl
first-globals (a ∷ ms) (b ∷ ns) h =
    ap (λ gs. [] ∷ gs)
    (first-globals ms ns (both (is_same_text a.name b.name) (same_modules ms ns) h).1)
first-globals [] (b ∷ ns) h = no h
first-globals (a ∷ ms) [] h = no h

pub fits-at : (old new : List LoadedModule) → IsTrue (same_modules old new)
    → IsTrue (all_fit old new) → (m : ℕ) → IsTrue (fits_body (body_of old m) (body_of new m))
fits-at [] [] h f m = refl
fits-at (a ∷ ms) (b ∷ ns) h f zero = (both (fits_body a.body b.body) (all_fit ms ns) f).0
fits-at (a ∷ ms) (b ∷ ns) h f (suc m) =
    fits-at ms ns (both (is_same_text a.name b.name) (same_modules ms ns) h).1
    (both (fits_body a.body b.body) (all_fit ms ns) f).1 m
fits-at [] (b ∷ ns) h f m = no h
fits-at (a ∷ ms) [] h f m = no h

-- ---- lines of a list are in it

pub in-itself : (ls : List ℕ) → AllByRecursion (λ l. is_one_of l ls ≡ false → ⊥) ls
in-itself [] = tt
in-itself (l ∷ ls) = (
  λ e. no (sym (or-false (nat_eq l l) (is_one_of l ls) e).0 ∙ eq-eqb l l refl),
  all-weaker (λ k. is_one_of k ls ≡ false → ⊥) (λ k. is_one_of k (l ∷ ls) ≡ false
      → ⊥) (λ k h e. h (or-false (nat_eq k l) (is_one_of k ls) e).1) ls (in-itself ls),
)

-- ---- the first world

module _ (K : FuncId → Type 0) where
  no-globals : (ms : List LoadedModule) → GlobalsSuit K (map no_names ms)
  no-globals [] = tt
  no-globals (m ∷ ms) = (tt, no-globals ms)

  texts-suit : (ts : List Text) → SuitAll K (map str_value ts)
  texts-suit [] = tt
  texts-suit (t ∷ ts) = (tt, texts-suit ts)

  pub first-suits : (ms : List LoadedModule) (words : List Text)
      → WorldSuits K (first_world ms words)
  first-suits ms words = (no-globals ms, (texts-suit words, tt))
