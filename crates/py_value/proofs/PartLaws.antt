-- Parts of lists of values.
use Rattle.std.proofs.Common.{◌≡◌, ℕ, zero, suc, ◌-◌, List, [], ◌∷◌, length, take, drop, Option, refl, ap, sym, ◌∙◌, ℤ}
use Rattle.std.proofs.lemmas.List.{length-map}
use Rattle.py_value.specs.declared.value.Value.{Value}
use Rattle.py_value.specs.View.{plain, plains}
use Rattle.py_value.specs.Sequences.{part, first_bound, last_bound}

pub plains-take : (n : ℕ) (xs : List Value) → plains (take n xs) ≡ take n (plains xs)
plains-take zero xs = refl
plains-take (suc n) [] = refl
plains-take (suc n) (x ∷ xs) = ap (λ ys. plain x ∷ ys) (plains-take n xs)

pub plains-drop : (n : ℕ) (xs : List Value) → plains (drop n xs) ≡ drop n (plains xs)
plains-drop zero xs = refl
plains-drop (suc n) [] = refl
plains-drop (suc n) (x ∷ xs) = plains-drop n xs

pub plains-part : (xs : List Value) (from to : Option ℤ) (i j : ℕ) → i ≡ first_bound (length xs) from → j ≡ last_bound (length xs) to → plains (take (j - i) (drop i xs)) ≡ part from to (plains xs)
plains-part xs from to i j e f =
    plains-take (j - i) (drop i xs) ∙ ap (take (j - i)) (plains-drop i xs)
    ∙ ap (λ k. take (j - k) (drop k (plains xs))) e
    ∙ ap (λ k. take (k - first_bound (length xs) from) (drop (first_bound (length xs) from) (plains xs))) f
    ∙ ap (λ n. take (last_bound n to - first_bound n from) (drop (first_bound n from) (plains xs))) (sym (length-map xs plain))
