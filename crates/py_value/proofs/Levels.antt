-- The steps of the walks that compare.
use Rattle.std.proofs.Common.{◌≡◌, ◌≢◌, ℕ, zero, suc, ◌-◌, min, Bool, Result, Ok, Err, List, [], ◌∷◌, length, drop, refl, ap, ◌∙◌, arith}
use Rattle.std.specs.declared.cmp.Ordering.{Ordering}
use Rattle.std.specs.Ordering.{nat_cmp}
use Rattle.std.proofs.lemmas.Bool.Decides.{nat_tests}
use Rattle.py_value.specs.declared.cause.Cause.{Cause}
use Rattle.py_value.specs.declared.cause.Cause.TheVariants.{TooDeep}
use Rattle.py_value.specs.declared.value.Value.{Value}
use Rattle.py_value.specs.Plain.{PlainValue, listed, packed, PlainHeap}
use Rattle.py_value.specs.View.{plains}
use Rattle.py_value.specs.Comparison.{equal_step, equal_within, order_step, order_within, order_of_items}

pub equal-none : (n : ℕ) (h : PlainHeap) (a b : PlainValue) → n ≡ 0 → Err TooDeep ≡ equal_within n h a b
unfolding equal_within
equal-none zero h a b e = refl
equal-none (suc n) h a b e = absurd (omega arith)

pub equal-more : (n : ℕ) (h : PlainHeap) (a b : PlainValue) → n ≢ 0 → equal_step (equal_within (n - 1) h) h a b ≡ equal_within n h a b
unfolding equal_within
equal-more zero h a b e = absurd (e refl)
equal-more (suc n) h a b e = let f : suc n - 1 ≡ n = omega arith in ap (λ k. equal_step (equal_within k h) h a b) f

pub order-none : (n : ℕ) (h : PlainHeap) (a b : PlainValue) → n ≡ 0 → Err TooDeep ≡ order_within n h a b
unfolding order_within
order-none zero h a b e = refl
order-none (suc n) h a b e = absurd (omega arith)

pub order-more : (n : ℕ) (h : PlainHeap) (a b : PlainValue) → n ≢ 0 → order_step (equal_within (n - 1) h) (order_within (n - 1) h) h a b ≡ order_within n h a b
unfolding order_within
order-more zero h a b e = absurd (e refl)
order-more (suc n) h a b e = let f : suc n - 1 ≡ n = omega arith in ap (λ k. order_step (equal_within k h) (order_within k h) h a b) f

-- a tuple's items as a list
pub listed-packed : (vs : List PlainValue) → listed (packed vs) ≡ vs
listed-packed [] = refl
listed-packed (v ∷ vs) = ap (λ ws. v ∷ ws) (listed-packed vs)

cmp-more : (a b : ℕ) → nat_cmp (suc a) (suc b) ≡ nat_cmp a b
cmp-more a b = grind (arith, nat_tests)

pub order-ended : (equal : PlainValue → PlainValue → Result Bool Cause) (order : PlainValue → PlainValue → Result Ordering Cause) (xs ys : List Value) (i : ℕ) → i ≡ min (length xs) (length ys)
    → Ok (nat_cmp (length xs) (length ys)) ≡ order_of_items equal order (plains (drop i xs)) (plains (drop i ys))
order-ended equal order [] [] zero e = refl
order-ended equal order [] (y ∷ ys) zero e = ap Ok (grind (arith, nat_tests))
order-ended equal order (x ∷ xs) [] zero e = ap Ok (grind (arith, nat_tests))
order-ended equal order (x ∷ xs) (y ∷ ys) zero e = absurd (omega arith)
order-ended equal order [] ys (suc i) e = absurd (omega arith)
order-ended equal order (x ∷ xs) [] (suc i) e = absurd (omega arith)
order-ended equal order (x ∷ xs) (y ∷ ys) (suc i) e = ap Ok (cmp-more (length xs) (length ys)) ∙ order-ended equal order xs ys i (omega arith)
