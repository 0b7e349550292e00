-- What stands in place of the last of a list, or of the two last.
use Rattle.std.proofs.Common.{◌≡◌, ℕ, suc, ◌+◌, ◌-◌, List, [], ◌∷◌, ◌++◌, length, take, refl, sym, ap, ◌∙◌, arith}
use Rattle.std.specs.Prelude.{reverse, slice_set}
use Rattle.std.proofs.lemmas.List.{reverse-append, reverse-reverse, length-append}

-- the one before the last is another, and the last one is gone
last_set : {A : Type 0} (ys : List A) (a b x : A) → take (suc (length ys)) (slice_set (ys ++ a ∷ b ∷ []) (length ys) x) ≡ ys ++ x ∷ []
last_set [] a b x = refl
last_set (y ∷ ys) a b x = ap (λ zs. y ∷ zs) (last_set ys a b x)

-- the same, seen from the end
pub replaced : {A : Type 0} (items : List A) (x b a : A) (rest : List A) (n k : ℕ) → reverse items ≡ b ∷ a ∷ rest → n ≡ length items - 1 → k ≡ length items - 2 → reverse (take n (slice_set items k x)) ≡ x ∷ rest
replaced {A} items x b a rest n k e f g =
    let is : items ≡ reverse rest ++ a ∷ b ∷ [] = sym (reverse-reverse items) ∙ ap reverse e ∙ reverse-append (b ∷ a ∷ []) rest in
    let long : length items ≡ length (reverse rest) + 2 = ap length is ∙ length-append (reverse rest) (a ∷ b ∷ []) in
    let one : n ≡ suc (length (reverse rest)) = omega (arith, f, long) in
    let two : k ≡ length (reverse rest) = omega (arith, g, long) in
    ap reverse (ap (λ j. take j (slice_set items k x)) one ∙ ap (λ j. take (suc (length (reverse rest))) (slice_set items j x)) two ∙ ap (λ ys. take (suc (length (reverse rest))) (slice_set ys (length (reverse rest)) x)) is ∙ last_set (reverse rest) a b x)
    ∙ reverse-append (reverse rest) (x ∷ [])
    ∙ ap (λ ys. x ∷ ys) (reverse-reverse rest)

-- the last is another
last_other : {A : Type 0} (ys : List A) (a x : A) → slice_set (ys ++ a ∷ []) (length ys) x ≡ ys ++ x ∷ []
last_other [] a x = refl
last_other (y ∷ ys) a x = ap (λ zs. y ∷ zs) (last_other ys a x)

-- the same, seen from the end
pub replaced_last : {A : Type 0} (items : List A) (x a : A) (rest : List A) (k : ℕ) → reverse items ≡ a ∷ rest → k ≡ length items - 1 → reverse (slice_set items k x) ≡ x ∷ rest
replaced_last {A} items x a rest k e f =
    let is : items ≡ reverse rest ++ a ∷ [] = sym (reverse-reverse items) ∙ ap reverse e ∙ reverse-append (a ∷ []) rest in
    let long : length items ≡ length (reverse rest) + 1 = ap length is ∙ length-append (reverse rest) (a ∷ []) in
    let one : k ≡ length (reverse rest) = omega (arith, f, long) in
    ap reverse (ap (λ j. slice_set items j x) one ∙ ap (λ ys. slice_set ys (length (reverse rest)) x) is ∙ last_other (reverse rest) a x)
    ∙ reverse-append (reverse rest) (x ∷ [])
    ∙ ap (λ ys. x ∷ ys) (reverse-reverse rest)
