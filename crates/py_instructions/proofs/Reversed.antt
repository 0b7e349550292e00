-- A vector from its end.
use Rattle.std.proofs.Common.{◌≡◌, ℕ, suc, ◌-◌, ◌<◌, ◌≤◌, List, [], ◌∷◌, ◌++◌, length, take, drop, Some, None, sym, ap, ◌∙◌, arith, length-drop, append_assoc}
use Rattle.std.specs.Prelude.{reverse, slice_get, remove, insert}
use Rattle.std.proofs.Common.{get_or}
use Rattle.std.proofs.lemmas.List.{take-append-drop, reverse-append, length-reverse, get_or-reverse, take_at, drop_at}
use Rattle.std.proofs.lemmas.Option.{slice_get_past, slice_get-get_or}

parts : {A : Type 0} (n : ℕ) (xs : List A) → reverse xs ≡ reverse (drop n xs) ++ reverse (take n xs)
parts n xs = ap reverse (sym (take-append-drop n xs)) ∙ reverse-append (take n xs) (drop n xs)

front_length : {A : Type 0} (n : ℕ) (xs : List A) → length (reverse (drop n xs)) ≡ length xs - n
front_length n xs = length-reverse (drop n xs) ∙ length-drop n xs

-- the front of the reversed list, and the rest of it
pub reverse-drop : {A : Type 0} (n k : ℕ) (xs : List A) → length xs - n ≡ k → reverse (drop n xs) ≡ take k (reverse xs)
reverse-drop n k xs e = sym (ap (take k) (parts n xs) ∙ take_at (reverse (drop n xs)) (reverse (take n xs)) k (front_length n xs ∙ e))

pub reverse-take : {A : Type 0} (n k : ℕ) (xs : List A) → length xs - n ≡ k → reverse (take n xs) ≡ drop k (reverse xs)
reverse-take n k xs e = sym (ap (drop k) (parts n xs) ∙ drop_at (reverse (drop n xs)) (reverse (take n xs)) k (front_length n xs ∙ e))

pub kept : {A : Type 0} (n : ℕ) (xs : List A) → reverse (take n xs) ≡ drop (length (reverse xs) - n) (reverse xs)
kept n xs = reverse-take n (length (reverse xs) - n) xs (ap (λ k. k - n) (sym (length-reverse xs)))

-- what stands so many below the top
pub get_below : {A : Type 0} (xs : List A) (k : ℕ) (x : A) → k < length xs → x ≡ get_or xs (length xs - 1 - k) x → slice_get (reverse xs) k ≡ Some x
get_below xs k x lt e = slice_get-get_or (reverse xs) k x (omega (arith, length-reverse xs)) ∙ ap Some (get_or-reverse xs k x lt ∙ sym e)

pub get_past : {A : Type 0} (xs : List A) (k : ℕ) → length xs ≤ k → slice_get (reverse xs) k ≡ None
get_past xs k le = slice_get_past (reverse xs) k (omega (arith, length-reverse xs))

pub removed_below : {A : Type 0} (xs : List A) (k : ℕ) → k < length xs → reverse (remove xs (length xs - 1 - k)) ≡ remove (reverse xs) k
removed_below xs k lt =
    reverse-append (take (length xs - 1 - k) xs) (drop (suc (length xs - 1 - k)) xs)
    ∙ ap (λ ys. ys ++ reverse (take (length xs - 1 - k) xs)) (reverse-drop (suc (length xs - 1 - k)) k xs (omega arith))
    ∙ ap (λ ys. take k (reverse xs) ++ ys) (reverse-take (length xs - 1 - k) (suc k) xs (omega arith))

pub inserted_below : {A : Type 0} (xs : List A) (k : ℕ) (x : A) → k ≤ length xs → reverse (insert xs (length xs - k) x) ≡ take k (reverse xs) ++ x ∷ drop k (reverse xs)
inserted_below xs k x le =
    reverse-append (take (length xs - k) xs) (x ∷ drop (length xs - k) xs)
    ∙ ap (λ ys. ys ++ reverse (take (length xs - k) xs)) (reverse-append (x ∷ []) (drop (length xs - k) xs))
    ∙ append_assoc (reverse (drop (length xs - k) xs)) (x ∷ []) (reverse (take (length xs - k) xs))
    ∙ ap (λ ys. ys ++ x ∷ reverse (take (length xs - k) xs)) (reverse-drop (length xs - k) k xs (omega arith))
    ∙ ap (λ ys. take k (reverse xs) ++ x ∷ ys) (reverse-take (length xs - k) k xs (omega arith))
