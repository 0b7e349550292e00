-- The exception of an absent method.
use Rattle.std.proofs.Common.{◌≡◌, List, ℕ, refl, ap, ◌∙◌}
use Rattle.std.specs.Str.{chars}
use Rattle.py_value.specs.declared.builtin.Method.{Method}
use Rattle.py_value.specs.declared.builtin.Method.TheVariants.{Append, Pop, Get, Keys, StartsWith, Join, Split}
use Rattle.py_value.specs.declared.exception.ExcKind.TheVariants.{AttributeError}
use Rattle.py_value.specs.Plain.{PlainValue, PlainRaised, str_value, argument}
use Rattle.py_builtins.specs.Methods.{method_name, absent_text, no_attribute}

-- each text is ASCII
chars-absent_text : (which : Method) → chars (absent_text (method_name which)) ≡ absent_text (method_name which)
unfolding chars
chars-absent_text Append = refl
chars-absent_text Pop = refl
chars-absent_text Get = refl
chars-absent_text Keys = refl
chars-absent_text StartsWith = refl
chars-absent_text Join = refl
chars-absent_text Split = refl

-- the exception as the code makes it
pub attribute-made : (which : Method) (v : PlainValue) (text bytes : List ℕ) → v ≡ str_value text → text ≡ chars bytes → bytes ≡ absent_text (method_name which)
    → record { kind = AttributeError; arg = argument v } ≡ no_attribute (method_name which)
attribute-made which v text bytes f g i =
    ap (λ w. let r : PlainRaised = record { kind = AttributeError; arg = argument w } in r) (f ∙ ap str_value (g ∙ ap chars i ∙ chars-absent_text which))
