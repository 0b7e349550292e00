-- Modules of two versions in loops, place by place.
use Rattle.std.proofs.Common.{◌≡◌, ◌≢◌, ◌⊎◌, inl, inr, ℕ, ◌<◌, ◌≤◌, min, Bool, true, false, List, [], ◌∷◌, ◌++◌, length, drop, map, refl, ap, sym, ◌∙◌, arith}
use Rattle.std.specs.Prelude.{bytes_eq, encode_utf8_all, nat_lt}
use Rattle.std.specs.Str.{chars, IsUtf8}
use Rattle.std.proofs.Math.ListN.{drop_of_length-le}
use borrow.Author.Tests.{ltb-true, ltb-false}
use Rattle.std.proofs.lemmas.List.{append-nil, length-map}
use Rattle.std.proofs.lemmas.Slice.Eq.{bytes_eq-Decides}
use Rattle.std.proofs.lemmas.Str.{encodes-chars}
use Rattle.py_changes.specs.Changes.{same_modules, all_fit}
use Rattle.py_code.specs.declared.code.Program.{Program}
use Rattle.py_meaning.specs.Modules.{LoadedModule}
use Rattle.py_text.proofs.SameTexts.{same_answer, same_text, same_text_from}
use Rattle.py_text.specs.Comparison.{is_same_text}
use Rattle.cov_select.specs.declared.modules.Version.{Version}
use Rattle.cov_select.specs.Paths.{modules_beside, version_view, compared_by_path}
use Rattle.cov_select.proofs.Paths.{same-count}

-- one of two lists is at its end
pub at-end : (a b i : ℕ) → min a b ≤ i → (a ≤ i) ⊎ (b ≤ i)
at-end a b i h = by_case (nat_lt i a) refl where
  by_case : (t : Bool) → nat_lt i a ≡ t → (a ≤ i) ⊎ (b ≤ i)
  by_case true e = let lt : i < a = ltb-true i a e in inr (omega arith)
  by_case false e = let le : a ≤ i = ltb-false i a e in inl le

-- nothing is made of two lists where one of them is at its end
pub ended-both : {X Y R : Type 0} (F : List X → List Y → R) (none : R) → ((ys : List Y) → F [] ys ≡ none) → ((xs : List X) → F xs [] ≡ none)
    → (xs : List X) (ys : List Y) (i : ℕ) → min (length xs) (length ys) ≤ i → F (drop i xs) (drop i ys) ≡ none
ended-both F none first second xs ys i le = by_case (at-end (length xs) (length ys) i le) where
  by_case : (length xs ≤ i) ⊎ (length ys ≤ i) → F (drop i xs) (drop i ys) ≡ none
  by_case (inl h) = ap (λ l. F l (drop i ys)) (drop_of_length-le xs h) ∙ first (drop i ys)
  by_case (inr h) = ap (λ l. F (drop i xs) l) (drop_of_length-le ys h) ∙ second (drop i xs)

-- a list that is made one by one has all at the end
pub made-all : {A : Type 0} (made rest all : List A) → rest ≡ [] → made ++ rest ≡ all → made ≡ all
made-all made rest all e h = sym (append-nil made) ∙ ap (λ l. made ++ l) (sym e) ∙ h

-- names are the same by their bytes
pub same-names : (a b : List ℕ) → IsUtf8 a → IsUtf8 b → bytes_eq a b ≡ is_same_text (chars a) (chars b)
same-names a b u v =
    same_answer (bytes_eq a b) (is_same_text (chars a) (chars b)) (a ≡ b) (bytes_eq-Decides a b).0 (bytes_eq-Decides a b).1
    (λ h. sym (encodes-chars a u) ∙ ap encode_utf8_all (same_text (chars a) (chars b) h) ∙ encodes-chars b v)
    (λ e. same_text_from (chars a) (chars b) (ap chars e))

-- ---- what the code makes of them

pub none-beside : (ps : List Program) → modules_beside ps [] ≡ []
none-beside [] = refl
none-beside (p ∷ ps) = refl

pub none-compared : (us : List LoadedModule) → compared_by_path us [] ≡ []
none-compared [] = refl
none-compared (u ∷ us) = refl

pub all-fit-none : (us : List LoadedModule) → all_fit us [] ≡ true
all-fit-none [] = refl
all-fit-none (u ∷ us) = refl

pub unlike-modules : (us vs : List Version) → length us ≢ length vs → false ≡ same_modules (map version_view us) (map version_view vs)
unlike-modules us vs h = by_case (same_modules (map version_view us) (map version_view vs)) refl where
  by_case : (b : Bool) → same_modules (map version_view us) (map version_view vs) ≡ b → false ≡ same_modules (map version_view us) (map version_view vs)
  by_case true e = absurd (h (sym (length-map us version_view) ∙ same-count (map version_view us) (map version_view vs) e ∙ length-map vs version_view))
  by_case false e = sym e
