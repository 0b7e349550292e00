-- What isn't changed where it stands.
use Rattle.std.proofs.Common.{◌≡◌, refl}
use Rattle.py_operator.specs.declared.operator.BinOp.{BinOp}
use Rattle.py_operator.specs.declared.operator.BinOp.TheVariants.{Add, Mul}
use Rattle.py_value.specs.declared.value.Value.{Value}
use Rattle.py_value.specs.declared.value.Value.TheVariants as variant
use Rattle.py_value.specs.Operators.{binary_of, in_place_of}
use Rattle.py_value.specs.Plain.{PlainValue, PlainHeap}
use Rattle.py_value.specs.View.{plain}

-- only a list is changed where it stands
pub in_place-no_list : (op : BinOp) (v : Value) (b : PlainValue) (h : PlainHeap)
    → ((a : _) → v ≡ variant.List a → ⊥) → binary_of op (plain v) b h ≡ in_place_of op (plain v) b h
in_place-no_list Add (variant.List a) b h n = absurd (n a refl)
in_place-no_list Mul (variant.List a) b h n = absurd (n a refl)
in_place-no_list op v b h n = refl
