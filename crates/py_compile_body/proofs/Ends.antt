-- Ends of loops.
--     one_counted                    the end of a sum that begins with one
--     one_more, one_added            the end of a loop that one instruction follows
--     not_none                       a list with an item is not empty
use Rattle.std.proofs.Common.{◌≡◌, ℕ, suc, ◌+◌, ◌≤◌, ◌==◌, false, List, [], ◌++◌, Result, Ok, Err, OnOk, drop, length, sym, ap, ◌∙◌, arith}
use Rattle.std.proofs.lemmas.Bool.Decides.{nat_tests}
use Rattle.std.proofs.Math.ListN.{drop_of_length-le}

pub one_counted : {X : Type 0} (F : List X → ℕ) → F [] ≡ 1 → (now w : ℕ) (xs : List X) (i : ℕ) → length xs ≤ i → now + F (drop i xs) ≡ 1 + w → now ≡ w
one_counted F e now w xs i le h = let k : F (drop i xs) ≡ 1 = ap F (drop_of_length-le xs le) ∙ e in omega (arith, k, h)

pub one_more : {X : Type 0} (F : List X → ℕ) → F [] ≡ 1 → (now w : ℕ) (xs : List X) (i : ℕ) → length xs ≤ i → now + F (drop i xs) ≡ w → now + 1 ≡ w
one_more F e now w xs i le h = let k : F (drop i xs) ≡ 1 = ap F (drop_of_length-le xs le) ∙ e in omega (arith, k, h)

pub one_added : {X A E R : Type 0} (F : List X → List A) (y : List A) → F [] ≡ y → (r : Result R E) (new now w : List A) (xs : List X) (i : ℕ) → length xs ≤ i → OnOk r (new ≡ now ++ y) → now ++ F (drop i xs) ≡ w → OnOk r (new ≡ w)
one_added F y e (Ok u) new now w xs i le h k = h ∙ ap (λ ys. now ++ ys) (sym (ap F (drop_of_length-le xs le) ∙ e)) ∙ k
one_added F y e (Err f) new now w xs i le h k = h

pub not_none : (n : ℕ) → (suc n == 0) ≡ false
not_none n = grind (arith, nat_tests)
