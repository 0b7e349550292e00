-- Names after a dot (Python Language Reference, 6.3.1).
use Rattle.std.specs.Prelude.{ℕ, if◌then◌else◌, List, [], ◌∷◌, Option, Some, None, Result, Ok, Err}
use Rattle.py_value.specs.declared.builtin.Method.{Method}
use Rattle.py_value.specs.declared.builtin.Method.TheVariants.{Append, Pop, Get, Keys, StartsWith, Join, Split}
use Rattle.py_value.specs.declared.value.ModId.{ModId}
use Rattle.py_value.specs.declared.value.ModId.TheVariants.{Loaded, Sys}
use Rattle.py_text.specs.Comparison.{is_same_text}
use Rattle.py_value.specs.Plain.{PlainValue, module_value, PlainRaised}
use Rattle.py_builtins.specs.Methods.{method_name, has_method, no_attribute}
use Rattle.py_builtins.specs.World.{World, global_of, sys_name}

-- what is there, or else this exception
abbrev pub or_raise : {A : Type 0} → PlainRaised → Option A → Result A PlainRaised
or_raise e None = Err e
or_raise e (Some a) = Ok a

-- a name of a module (Python Language Reference, "Modules")
abbrev pub module_global : ModId → List ℕ → World → Option PlainValue
module_global (Loaded m) x w = global_of m x w
module_global Sys x w = sys_name w x

-- `v.x`, where it isn't called: only modules have such names
abbrev pub attribute : PlainValue → List ℕ → World → Result PlainValue PlainRaised
attribute (module_value m) x w = or_raise (no_attribute x) (module_global m x w)
attribute v x w = Err (no_attribute x)

-- the methods of all values
abbrev pub methods : List Method
methods = Append ∷ Pop ∷ Get ∷ Keys ∷ StartsWith ∷ Join ∷ Split ∷ []

-- the first of these methods that has a name
abbrev pub method_among : List Method → List ℕ → Option Method
method_among [] x = None
method_among (m ∷ ms) x = if is_same_text x (method_name m) then Some m else method_among ms x

-- a method, where the value has it
abbrev pub where_it_has : PlainValue → Option Method → Option Method
where_it_has v None = None
where_it_has v (Some m) = if has_method m v then Some m else None

-- the method of a value by its name
abbrev pub method_named : PlainValue → List ℕ → Option Method
method_named v x = where_it_has v (method_among methods x)
