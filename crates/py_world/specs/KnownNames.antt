-- What is predefined under a name, as a store keeps it.
--     known_value    the value of a built-in function or a kind of exceptions
--     IsKnown        whether a name has it, or none
use Rattle.std.specs.Prelude.{◌≡◌, ℕ, List, Option, Some, None}
use Rattle.py_value.specs.Plain.{PlainValue, builtin_value, kind_value}
use Rattle.py_builtins.specs.Predefined.{predefined}
use Rattle.py_builtins.specs.World.{value_of}
use Rattle.py_world.specs.declared.known_names.Known.{Known}
use Rattle.py_world.specs.declared.known_names.Known.TheVariants.{Function, Kind}

-- the value of what is predefined
abbrev pub known_value : Known → PlainValue
known_value (Function f) = builtin_value f
known_value (Kind k) = kind_value k

-- what is predefined under a name, if something is
abbrev pub IsKnown : List ℕ → Option Known → Type 0
IsKnown x None = value_of x predefined ≡ None
IsKnown x (Some k) = value_of x predefined ≡ Some (known_value k)
