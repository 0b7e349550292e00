-- Values whose text is their display.
use Rattle.std.proofs.Common.{◌≡◌, List, ℕ, [], refl}
use Rattle.py_value.specs.declared.exception.ExcKind.{ExcKind}
use Rattle.py_value.specs.declared.value.Value.{Value}
use Rattle.py_value.specs.declared.value.Value.TheVariants as variant
use Rattle.py_value.specs.Plain.{PlainValue, PlainHeap}
use Rattle.py_value.specs.View.{plain}
use Rattle.py_builtins.specs.Displays.{display_step}
use Rattle.py_builtins.specs.Texts.{text_step}
use Rattle.py_builtins.specs.Writing.{Writing}

-- all but texts and exceptions
pub as_displayed : (D : List ℕ → PlainValue → Writing) (T : PlainValue → Writing) (h : PlainHeap) (v : Value) → ((s : _) → v ≡ variant.Str s → ⊥)
    → ((k : ExcKind) (a : _) → v ≡ variant.Exc k a → ⊥) → display_step D h [] (plain v) ≡ text_step T D h (plain v)
as_displayed D T h (variant.Str s) i j = absurd (i s refl)
as_displayed D T h (variant.Exc k a) i j = absurd (j k a refl)
as_displayed D T h v i j = refl
