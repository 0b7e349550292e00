-- What stands in front of a call's arguments, and names of modules (Python Language Reference,
-- 6.3.4 and 7.11).
use Rattle.std.specs.Prelude.{ℕ, List, Option, Some, None, Result, Ok, Err}
use Rattle.py_value.specs.declared.builtin.Method.{Method}
use Rattle.py_value.specs.Plain.{PlainValue, module_value, PlainRaised}
use Rattle.py_builtins.specs.Attributes.{or_raise, module_global, method_named}
use Rattle.py_builtins.specs.Methods.{no_attribute}
use Rattle.py_builtins.specs.Predefined.{predefined}
use Rattle.py_builtins.specs.World.{World, value_of}
use Rattle.py_builtins.specs.Faults.{name_unknown, no_import}

-- a value, or a method of one
pub data Callee : Type 0 where
  a_value : PlainValue → Callee
  a_method : Method → PlainValue → Callee

-- a method of a value is called
abbrev pub as_method : PlainValue → Option Method → Option Callee
as_method v None = None
as_method v (Some m) = Some (a_method m v)

-- a value is called
abbrev pub as_value : Option PlainValue → Option Callee
as_value None = None
as_value (Some v) = Some (a_value v)

-- `v.x`, where it is called: a name of a module, or a method
abbrev pub callee_of : PlainValue → List ℕ → World → Result Callee PlainRaised
callee_of (module_value m) x w = or_raise (no_attribute x) (as_value (module_global m x w))
callee_of v x w = or_raise (no_attribute x) (as_method v (method_named v x))

-- a name of a module, by an import
abbrev pub taken : List ℕ → PlainValue → List ℕ → World → Result PlainValue PlainRaised
taken m (module_value k) x w = or_raise (no_import m x) (module_global k x w)
taken m v x w = Err (no_import m x)

-- a name that isn't local: a global, or else a predefined one
abbrev pub or_builtin : List ℕ → Option PlainValue → Result PlainValue PlainRaised
or_builtin x None = or_raise (name_unknown x) (value_of x predefined)
or_builtin x (Some v) = Ok v
