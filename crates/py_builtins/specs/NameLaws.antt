-- Names that were set, set again and unset.
use Rattle.std.specs.Prelude.{◌≡◌, ℕ, if◌then◌else◌, List, Some, None}
use Rattle.py_text.specs.Comparison.{is_same_text}
use Rattle.py_value.specs.Plain.{PlainValue}
use Rattle.py_builtins.specs.World.{Names, value_of, with_name, without_name}

-- what each name gives then
pub record NameLaw : Type 0 where
  pub of_set : (x y : List ℕ) (v : PlainValue) (ns : Names)
      → value_of y (with_name x v ns) ≡ (if is_same_text y x then Some v else value_of y ns)
  pub of_set_again : (x : List ℕ) (v w : PlainValue) (ns : Names)
      → with_name x w (with_name x v ns) ≡ with_name x w ns
  pub of_unset : (x y : List ℕ) (ns : Names)
      → value_of y (without_name x ns) ≡ (if is_same_text y x then None else value_of y ns)
