-- An item is smaller than the items.
use Rattle.std.proofs.Common.{◌≡◌, ℕ, zero, suc, ◌<◌, ◌≤◌, List, [], ◌∷◌, length, get_or, ap, arith}
use Rattle.py_value.specs.declared.value.Value.{Value}
use Rattle.py_value.specs.Plain.{packed}
use Rattle.py_value.specs.Shared.{plain, plains, size_of_value, size_of_values}

pub smaller_item : (vs : List Value) (i : ℕ) (x : Value) → i < length vs → x ≡ get_or vs i x → suc (size_of_value (plain x)) ≤ size_of_values (packed (plains vs))
smaller_item [] i x l e = absurd (omega arith)
smaller_item (v ∷ vs) zero x l e = omega (arith, ap (λ w. size_of_value (plain w)) e)
smaller_item (v ∷ vs) (suc i) x l e = omega (arith, smaller_item vs i x (omega arith) e)
