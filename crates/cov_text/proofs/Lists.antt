-- Lists of pieces.
use Rattle.std.proofs.Common.{◌≡◌, ℕ, ◌+◌, ◌<◌, List, [], ◌∷◌, ◌++◌, map, drop, get_or, length, max, ap, sym, ◌∙◌, refl, Bor, drop-cons, add-one, append_assoc, arith}
use Rattle.std.specs.Ordering.{ord_max, nat_cmp}
use Rattle.std.proofs.lemmas.Bool.Decides.{nat_tests}
use Rattle.std.specs.List.{flat_map, join_by}
use Rattle.std.proofs.lemmas.List.{map-append}

pub map-map : {X Y Z : Type 0} (f : X → Y) (g : Y → Z) (xs : List X) → map g (map f xs) ≡ map (λ x. g (f x)) xs
map-map f g [] = refl
map-map f g (x ∷ xs) = ap (λ ys. g (f x) ∷ ys) (map-map f g xs)

flat_map-map : {X Y Z : Type 0} (f : X → Y) (g : Y → List Z) (xs : List X) → flat_map g (map f xs) ≡ flat_map (λ x. g (f x)) xs
flat_map-map f g [] = refl
flat_map-map f g (x ∷ xs) = ap (λ ys. g (f x) ++ ys) (flat_map-map f g xs)

pub join_by-map : {X : Type 0} (f : X → List ℕ) (sep : List ℕ) (xs : List X) → join_by (λ y. y) sep (map f xs) ≡ join_by f sep xs
join_by-map f sep [] = refl
join_by-map f sep (x ∷ xs) = ap (λ ys. f x ++ ys) (flat_map-map f (λ y. sep ++ y) xs)

-- one more text
pub pushed : {X : Type 0} (f : X → List ℕ) (texts more : List (Bor (List ℕ))) (text : Bor (List ℕ)) (xs : List X) (x : X) → more ≡ texts ++ text ∷ [] → text.now ≡ f x → map (λ (t : Bor (List ℕ)). t.now) texts ≡ map f xs → map (λ (t : Bor (List ℕ)). t.now) more ≡ map f (xs ++ x ∷ [])
pushed f texts more text xs x grown is all =
    ap (map (λ (t : Bor (List ℕ)). t.now)) grown
    ∙ map-append (λ (t : Bor (List ℕ)). t.now) texts (text ∷ [])
    ∙ ap (λ ys. ys ++ text.now ∷ []) all
    ∙ ap (λ y. map f xs ++ y ∷ []) is
    ∙ sym (map-append f xs (x ∷ []))

-- one piece moves from what is left to what is there
pub appended : {X : Type 0} (f : X → List ℕ) (text more whole : List ℕ) (x : X) (left : List X) → more ≡ text ++ f x → text ++ flat_map f (x ∷ left) ≡ whole → more ++ flat_map f left ≡ whole
appended f text more whole x left grown is = ap (λ t. t ++ flat_map f left) grown ∙ append_assoc text (f x) (flat_map f left) ∙ is

pub drop_at : {X : Type 0} (xs : List X) (i : ℕ) (d : X) → i < length xs → drop i xs ≡ get_or xs i d ∷ drop (i + 1) xs
drop_at xs i d h = drop-cons xs i d h ∙ ap (λ k. get_or xs i d ∷ drop k xs) (sym (add-one i))

-- the greatest of what is there and of what is left
pub max_is : (a b : ℕ) → ord_max nat_cmp a b ≡ max a b
max_is a b = grind (arith, nat_tests)
