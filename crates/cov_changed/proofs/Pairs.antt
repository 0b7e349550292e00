-- Loops over two lists, item by item, and over one.
use Rattle.std.proofs.Common.{◌≡◌, ℕ, suc, ◌+◌, ◌<◌, ◌≤◌, Bool, true, false, ◌&&◌, ◌||◌, List, [], ◌∷◌, length, get_or, drop, ap, sym, ◌∙◌, drop-cons, add-one}
use Rattle.std.proofs.Math.ListN.{drop_of_length-le}

pub the_drop : {X : Type 0} (xs : List X) (i : ℕ) (x : X) → i < length xs → x ≡ get_or xs i x → drop i xs ≡ x ∷ drop (i + 1) xs
the_drop xs i x lt is = drop-cons xs i x lt ∙ ap (λ y. y ∷ drop (suc i) xs) (sym is) ∙ ap (λ k. x ∷ drop k xs) (sym (add-one i))

-- what is asked of two lists is asked of their items, one after another
pub at_items : {X : Type 0} (F : List X → List X → Bool) (one : X → X → Bool) → ((x y : X) (xs ys : List X) → F (x ∷ xs) (y ∷ ys) ≡ (one x y && F xs ys))
    → (xs ys : List X) (i : ℕ) (x y : X) → i < length xs → i < length ys → x ≡ get_or xs i x → y ≡ get_or ys i y
    → F (drop i xs) (drop i ys) ≡ (one x y && F (drop (i + 1) xs) (drop (i + 1) ys))
at_items F one step xs ys i x y lt lu is js =
    ap (λ l. F l (drop i ys)) (the_drop xs i x lt is) ∙ ap (λ l. F (x ∷ drop (i + 1) xs) l) (the_drop ys i y lu js)
    ∙ step x y (drop (i + 1) xs) (drop (i + 1) ys)

-- nothing is left
pub is_done : {X : Type 0} (F : List X → List X → Bool) → F [] [] ≡ true → (xs ys : List X) (i : ℕ) → length xs ≤ i → length ys ≤ i → F (drop i xs) (drop i ys) ≡ true
is_done F e xs ys i le lf = ap (λ l. F l (drop i ys)) (drop_of_length-le xs le) ∙ ap (λ l. F [] l) (drop_of_length-le ys lf) ∙ e

-- ---- one list

pub at_item : {X : Type 0} (F : List X → Bool) (one : X → Bool) → ((x : X) (xs : List X) → F (x ∷ xs) ≡ (one x || F xs))
    → (xs : List X) (i : ℕ) (x : X) → i < length xs → x ≡ get_or xs i x → F (drop i xs) ≡ (one x || F (drop (i + 1) xs))
at_item F one step xs i x lt is = ap F (the_drop xs i x lt is) ∙ step x (drop (i + 1) xs)

-- an item is found
pub finds : (one rest now all : Bool) → now ≡ (one || rest) → one ≡ true → now ≡ all → true ≡ all
finds true rest now all e h k = sym e ∙ k
finds false rest now all e h k = absurd cc

-- one isn't
pub seeks_on : (one rest now all : Bool) → now ≡ (one || rest) → one ≡ false → now ≡ all → rest ≡ all
seeks_on true rest now all e h k = absurd cc
seeks_on false rest now all e h k = sym e ∙ k

pub found_none : {X : Type 0} (F : List X → Bool) → F [] ≡ false → (xs : List X) (i : ℕ) → length xs ≤ i → {all : Bool} → F (drop i xs) ≡ all → false ≡ all
found_none F e xs i le h = sym e ∙ ap F (sym (drop_of_length-le xs le)) ∙ h
