-- Comparisons of two whole numbers.
use Rattle.std.proofs.Common.{◌≡◌, ℤ, Bool, nat_eq, Result, Ok, SFits, w64, of_z, to_z, to_z-of_z, refl, ap, sym, ◌∙◌}
use Rattle.std.proofs.lemmas.Bool.{eqb-true, eq-eqb}
use Rattle.std.proofs.lemmas.Bool.Decides.{Decides-int_eq}
use Rattle.std.specs.declared.cmp.Ordering.{Ordering}
use Rattle.std.specs.Ordering.{int_eq, int_cmp}
use Rattle.py_operator.specs.declared.operator.CmpOp.{CmpOp}
use Rattle.py_value.specs.declared.cause.Cause.{Cause}
use Rattle.py_value.specs.Answers.{◌>>=◌}
use Rattle.py_value.specs.Plain.{PlainHeap, int_value}
use Rattle.py_value.specs.Comparison.{equal_within, order_within, most_levels}
use Rattle.py_value.specs.Operators.{compare_answer}
use Rattle.py_text.proofs.SameTexts.{same_answer}

-- numbers of 64 bits are equal where their bits are
same-bits : (x y : ℤ) → SFits w64 x → SFits w64 y → nat_eq (of_z w64 x) (of_z w64 y) ≡ int_eq x y
same-bits x y f g =
    same_answer (nat_eq (of_z w64 x) (of_z w64 y)) (int_eq x y) (x ≡ y)
    (λ t. sym (to_z-of_z f) ∙ ap (to_z w64) (eqb-true (of_z w64 x) (of_z w64 y) t) ∙ to_z-of_z g)
    (λ e. eq-eqb (of_z w64 x) (of_z w64 y) (ap (of_z w64) e))
    (Decides-int_eq x y).0 (Decides-int_eq x y).1

-- how two numbers compare
equal-numbers : (h : PlainHeap) (x y : ℤ) → equal_within most_levels h (int_value x) (int_value y) ≡ Ok (int_eq x y)
unfolding equal_within
equal-numbers h x y = refl

order-numbers : (h : PlainHeap) (x y : ℤ) → order_within most_levels h (int_value x) (int_value y) ≡ Ok (int_cmp x y)
unfolding order_within
order-numbers h x y = refl

pub equal-now : (h : PlainHeap) (x y : ℤ) → SFits w64 x → SFits w64 y → Ok (nat_eq (of_z w64 x) (of_z w64 y)) ≡ equal_within most_levels h (int_value x) (int_value y)
equal-now h x y f g = ap (λ b. let r : Result Bool Cause = Ok b in r) (same-bits x y f g) ∙ sym (equal-numbers h x y)

pub tested-equal : (test : Bool → Bool) (h : PlainHeap) (x y : ℤ) → SFits w64 x → SFits w64 y
    → Ok (test (nat_eq (of_z w64 x) (of_z w64 y))) ≡ (equal_within most_levels h (int_value x) (int_value y) >>= λ same. Ok (test same))
tested-equal test h x y f g =
    ap (λ b. let r : Result Bool Cause = Ok (test b) in r) (same-bits x y f g)
    ∙ sym (ap (λ r. r >>= λ same. let a : Result Bool Cause = Ok (test same) in a) (equal-numbers h x y))

-- a number of 64 bits, and its bits read back
abbrev pub read_back : ℤ → ℤ
read_back x = to_z w64 (of_z w64 x)

pub tested-order : (test : Ordering → Bool) (h : PlainHeap) (x y : ℤ) (o : Ordering) (b : Bool) → SFits w64 x → SFits w64 y → o ≡ int_cmp (read_back x) (read_back y) → b ≡ test o
    → Ok b ≡ (order_within most_levels h (int_value x) (int_value y) >>= λ order. Ok (test order))
tested-order test h x y o b f g e t =
    ap (λ c. let r : Result Bool Cause = Ok c in r) (t ∙ ap test (e ∙ ap (λ z. int_cmp z (read_back y)) (to_z-of_z f) ∙ ap (int_cmp x) (to_z-of_z g)))
    ∙ sym (ap (λ r. r >>= λ order. let a : Result Bool Cause = Ok (test order) in a) (order-numbers h x y))

-- the answer under the operator that was met
pub answered : {r : Result Bool Cause} (op p : CmpOp) (x y : ℤ) (h : PlainHeap) → r ≡ compare_answer p (int_value x) (int_value y) h → op ≡ p → r ≡ compare_answer op (int_value x) (int_value y) h
answered op p x y h e i = e ∙ sym (ap (λ q. compare_answer q (int_value x) (int_value y) h) i)
