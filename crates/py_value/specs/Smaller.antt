-- What a value holds is smaller than the value.
use Rattle.std.specs.Prelude.{suc, ◌≤◌, List, [], ◌∷◌, Option, Some, None}
use Rattle.std.proofs.Common.{arith}
use Rattle.py_value.specs.Plain.{packed}
use Rattle.py_value.specs.Shared.{plain, plains, size_of_value, size_of_values, size_of_argument, plain_held, argument_view}
use Rattle.std.specs.declared.rc.Rc.{Rc}
use Rattle.std.specs.declared.alloc.Global.{Global}
use Rattle.py_value.specs.declared.shared.Held.{Held}
use Rattle.py_value.specs.declared.value.Value.{Value}
use Rattle.py_value.specs.declared.value.Value.TheVariants.{None as NoneVariant, Bool, Int, Str, Tuple, List as ListVariant, Dict, Func, Module, Kind, Exc, Builtin}
use Rattle.py_value.specs.declared.shared.Argument.TheInside.{Inside}
use Rattle.py_value.specs.declared.shared.Argument.TheDeep.{deep-Value, deep-Argument}
use denote.Param.Weighed.{most}

-- a value measures at most one more than what it holds
deep_value : (v : Value) → deep-Value v ≤ suc (size_of_value (plain v))
deep_value NoneVariant = omega arith
deep_value (Bool b) = omega arith
deep_value (Int n) = omega arith
deep_value (Str t) = omega arith
deep_value (Tuple vs) = omega arith
deep_value (ListVariant a) = omega arith
deep_value (Dict a) = omega arith
deep_value (Func f a) = omega arith
deep_value (Module m) = omega arith
deep_value (Kind k) = omega arith
deep_value (Exc k a) = omega arith
deep_value (Builtin b) = omega arith

-- each item of a tuple measures no more than the tuple holds
pub smaller_items : (vs : List Value)
    → most (λ v. deep-Value v) vs ≤ size_of_values (packed (plains vs))
smaller_items [] = omega arith
smaller_items (v ∷ vs) = omega (arith, deep_value v, smaller_items vs)

-- the argument with this inside
abbrev inside : Option (Rc Held Global) → Inside
inside o = record { held = o }

-- what is held as an argument measures no more than the argument holds
smaller_held : (o : Option (Rc Held Global))
    → deep-Argument (inside o) ≤ size_of_argument (plain_held o)
smaller_held None = omega arith
smaller_held (Some rc) = omega (arith, deep_value rc.value.value)

-- what is inside an argument measures no more than the argument holds
pub smaller_argument : (a : Inside) → deep-Argument a ≤ size_of_argument (argument_view a)
smaller_argument a = smaller_held a.held
