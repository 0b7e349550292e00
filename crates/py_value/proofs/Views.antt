-- The plain view of a value that the code found to be a tuple.
use Rattle.std.proofs.Common.{◌≡◌, ◌∙◌, ap}
use Rattle.py_value.specs.Plain.{PlainValue}

-- a function of two values that are known
pub in_both : {A : Type 0} (F : PlainValue → PlainValue → A) (v w p q : PlainValue) → v ≡ p → w ≡ q → F v w ≡ F p q
in_both F v w p q e f = ap (λ x. F x w) e ∙ ap (λ y. F p y) f
