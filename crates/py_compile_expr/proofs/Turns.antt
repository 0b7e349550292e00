-- Loops over lists, and code that is added part by part.
--     none_counted, none_added       the end of a loop: nothing of the list is left
--     the_drop                       a turn of it: the next one of the list
--     a_turn, counted_turn           what is added in it
--     kept                           a part under another name
--     then, three, four              parts in a row
use Rattle.std.proofs.Common.{◌≡◌, ℕ, suc, ◌+◌, ◌<◌, ◌≤◌, ◌==◌, false, List, [], ◌∷◌, ◌++◌, Result, Ok, Err, OnOk, IfOk, drop, length, get_or, refl, sym, ap, ◌∙◌, arith, append_assoc, drop-cons, add-one}
use Rattle.std.proofs.Math.ListN.{drop_of_length-le}
use Rattle.std.proofs.lemmas.Bool.Decides.{nat_tests}
use Rattle.std.proofs.lemmas.List.{append-nil}

-- a sum
pub none_counted : {X : Type 0} (F : List X → ℕ) → F [] ≡ 0 → (now w : ℕ) (xs : List X) (i : ℕ) → length xs ≤ i → now + F (drop i xs) ≡ w → now ≡ w
none_counted F e now w xs i le h = let k : F (drop i xs) ≡ 0 = ap F (drop_of_length-le xs le) ∙ e in omega (arith, k, h)

-- a list that is added to
pub none_added : {X A : Type 0} (F : List X → List A) → F [] ≡ [] → (now w : List A) (xs : List X) (i : ℕ) → length xs ≤ i → now ++ F (drop i xs) ≡ w → now ≡ w
none_added F e now w xs i le h = sym (append-nil now) ∙ ap (λ ys. now ++ ys) (sym (ap F (drop_of_length-le xs le) ∙ e)) ∙ h

pub the_drop : {X : Type 0} (xs : List X) (i : ℕ) (x : X) → i < length xs → x ≡ get_or xs i x → drop i xs ≡ x ∷ drop (i + 1) xs
the_drop xs i x lt is = drop-cons xs i x lt ∙ ap (λ y. y ∷ drop (suc i) xs) (sym is) ∙ ap (λ k. x ∷ drop k xs) (sym (add-one i))

-- two more than none is not one
pub two_not_one : (n : ℕ) → (suc (suc n) == 1) ≡ false
two_not_one n = grind (arith, nat_tests)

-- a part under another name
pub kept : {A E R : Type 0} (r : Result R E) (s n x y : List A) → y ≡ x → OnOk r (n ≡ s ++ x) → OnOk r (n ≡ s ++ y)
kept (Ok u) s n x y e h = h ∙ ap (λ k. s ++ k) (sym e)
kept (Err f) s n x y e h = h

-- one part, and then another
pub then : {A E R : Type 0} (r : Result R E) (s m n : List A) (x y z : List A) → OnOk r (n ≡ m ++ y) → m ≡ s ++ x → z ≡ x ++ y → OnOk r (n ≡ s ++ z)
then (Ok u) s m n x y z h e f = h ∙ ap (λ k. k ++ y) e ∙ append_assoc s x y ∙ ap (λ k. s ++ k) (sym f)
then (Err e') s m n x y z h e f = h

pub and_then : {A : Type 0} (s m n : List A) (x y z : List A) → n ≡ m ++ y → m ≡ s ++ x → z ≡ x ++ y → n ≡ s ++ z
and_then s m n x y z h e f = h ∙ ap (λ k. k ++ y) e ∙ append_assoc s x y ∙ ap (λ k. s ++ k) (sym f)

-- a turn of a loop: what was to come is the part that is added now, and what is to come then
pub a_turn : {A : Type 0} (now next w x rest all : List A) → next ≡ now ++ x → all ≡ x ++ rest → now ++ all ≡ w → next ++ rest ≡ w
a_turn now next w x rest all e f h = ap (λ k. k ++ rest) e ∙ append_assoc now x rest ∙ ap (λ k. now ++ k) (sym f) ∙ h

-- a number that an answer has
pub the_number : {E : Type 0} (r : Result ℕ E) (m n : ℕ) → IfOk r (λ k. k ≡ m) → m ≡ n → IfOk r (λ k. k ≡ n)
the_number (Ok k) m n h e = h ∙ e
the_number (Err f) m n h e = h

-- three parts, and four
pub three : {A E R : Type 0} (r : Result R E) (s k m n x y z all : List A) → k ≡ s ++ x → m ≡ k ++ y → OnOk r (n ≡ m ++ z) → all ≡ x ++ (y ++ z) → OnOk r (n ≡ s ++ all)
three r s k m n x y z all e f h is = then r s m n (x ++ y) z all h (and_then s k m x y (x ++ y) f e refl) (is ∙ sym (append_assoc x y z))

pub four : {A E R : Type 0} (r : Result R E) (s j k m n w x y z all : List A) → j ≡ s ++ w → k ≡ j ++ x → m ≡ k ++ y → OnOk r (n ≡ m ++ z) → all ≡ w ++ (x ++ (y ++ z)) → OnOk r (n ≡ s ++ all)
four r s j k m n w x y z all d e f h is = three r s k m n (w ++ x) y z all (and_then s j k w x (w ++ x) e d refl) f h (is ∙ sym (append_assoc w x (y ++ z)))

-- a turn of a loop that counts
pub counted_turn : {X : Type 0} (F : List X → ℕ) (G : X → ℕ) → ((x : X) (xs : List X) → F (x ∷ xs) ≡ G x + F xs) → (xs : List X) (i : ℕ) (x : X) (now next w : ℕ) → i < length xs → x ≡ get_or xs i x → next ≡ now + G x → now + F (drop i xs) ≡ w → next + F (drop (i + 1) xs) ≡ w
counted_turn F G step xs i x now next w lt is e h =
    let t : F (drop i xs) ≡ G x + F (drop (i + 1) xs) = ap F (the_drop xs i x lt is) ∙ step x (drop (i + 1) xs) in
    omega (arith, e, h, t)

-- ---- sums

pub added : (a b m n : ℕ) → m ≡ a → n ≡ b → m + n ≡ a + b
added a b m n e f = omega (arith, e, f)

pub one_between : (a b : ℕ) → a + 1 + b ≡ a + b + 1
one_between a b = omega arith

pub one_first : (n : ℕ) → n + 1 ≡ 1 + n
one_first n = omega arith

pub two_around : (n : ℕ) → n + 2 ≡ 1 + n + 1
two_around n = omega arith
