-- What a call leads to, and the module that an import names (Python Language Reference, 6.3.4,
-- 7.11).
--     Reach                          an answer at once, or a frame
--     to_function, by_done           of a function, and of a built-in function
--     reach, reach_callee            of any value, and of a method
--     imported                       the module of a name
use Rattle.std.specs.Prelude.{ℕ, if◌then◌else◌, List, ◌++◌, Option, Some, None, Result, Ok, Err, codes}
use Rattle.cov_event.specs.declared.event.CodeId.{CodeId}
use Rattle.py_value.specs.declared.cause.Cause.TheVariants.{NotCallable, WrongArgumentCount}
use Rattle.py_value.specs.declared.value.FuncId.{FuncId}
use Rattle.py_value.specs.declared.value.ModId.TheVariants.{Loaded, Sys}
use Rattle.py_value.specs.Causes.{raised_by}
use Rattle.py_text.specs.Comparison.{is_same_text}
use Rattle.py_value.specs.Plain.{PlainValue, none_value, bool_value, int_value, str_value, tuple_value, list_at, dict_at, func_value, module_value, kind_value, exc_value, builtin_value, PlainRaised}
use Rattle.py_builtins.specs.Arguments.{Answer}
use Rattle.py_builtins.specs.Builtins.{Done, builtin_of, exception_of}
use Rattle.py_builtins.specs.Methods.{method_of}
use Rattle.py_builtins.specs.Parameters.{arguments, defaults_at}
use Rattle.py_builtins.specs.World.{with_heap}
use Rattle.py_code.specs.Configurations.{Effects}
use Rattle.py_code.specs.Units.{Code, Module, unit_at, imported_number}
use Rattle.py_builtins.specs.Callees.{Callee, a_value, a_method}
use Rattle.py_builtins.specs.Faults.{no_module}
use Rattle.py_code.specs.Changes.{in_world}

-- ---- what calls lead to: an answer at once, or a frame

-- an answer at once with what was changed, or a frame of a code with the values of its parameters
pub data Reach : Type 0 where
  at_once : (r : Result PlainValue PlainRaised) (e : Effects) → Reach
  in_frame : (code : CodeId) (vs : List PlainValue) → Reach

-- the code of a function
abbrev pub code_of : FuncId → CodeId
code_of f = record { «module» = f.module; unit = f.unit }

-- an exception at once
abbrev pub raises_at_once : PlainRaised → Effects → Reach
raises_at_once raised e = at_once (Err raised) e

-- a frame with the values of its parameters, where the arguments fit them
abbrev pub with_arguments : FuncId → Option (List PlainValue) → Effects → Reach
with_arguments f None e = raises_at_once (raised_by WrongArgumentCount) e
with_arguments f (Some vs) e = in_frame (code_of f) vs

-- a function that no module has can't be called
abbrev pub to_function : Option Code → FuncId → Option ℕ → List PlainValue → Effects → Reach
to_function None f a vs e = raises_at_once (raised_by NotCallable) e
to_function (Some u) f a vs e =
    with_arguments f (arguments u.params (defaults_at e.world.heap a) vs) e

-- an answer at once, with the heap that it leaves
abbrev pub by_answer : Answer → Effects → Reach
by_answer (Ok r) e = at_once (Ok r.0) (in_world (with_heap r.1) e)
by_answer (Err raised) e = raises_at_once raised e

-- what a built-in function writes and reads, and then its answer
abbrev pub by_done : Done → Effects → Reach
by_done d e = by_answer d.answer (record e { input = d.left; out = e.out ++ d.written })

-- a call of a value (Python Language Reference, 6.3.4)
abbrev pub reach : List Module → PlainValue → List PlainValue → Effects → Reach
reach ms none_value vs e = raises_at_once (raised_by NotCallable) e
reach ms (bool_value b) vs e = raises_at_once (raised_by NotCallable) e
reach ms (int_value n) vs e = raises_at_once (raised_by NotCallable) e
reach ms (str_value s) vs e = raises_at_once (raised_by NotCallable) e
reach ms (tuple_value items) vs e = raises_at_once (raised_by NotCallable) e
reach ms (list_at a) vs e = raises_at_once (raised_by NotCallable) e
reach ms (dict_at a) vs e = raises_at_once (raised_by NotCallable) e
reach ms (func_value f a) vs e = to_function (unit_at ms (code_of f)) f a vs e
reach ms (module_value m) vs e = raises_at_once (raised_by NotCallable) e
reach ms (kind_value kind) vs e = at_once (exception_of kind vs) e
reach ms (exc_value kind arg) vs e = raises_at_once (raised_by NotCallable) e
reach ms (builtin_value which) vs e = by_done (builtin_of which vs e.world.heap e.input) e

-- a call of a value, or of a method on a value
abbrev pub reach_callee : List Module → Callee → List PlainValue → Effects → Reach
reach_callee ms (a_value v) vs e = reach ms v vs e
reach_callee ms (a_method m v) vs e = by_answer (method_of m v vs e.world.heap) e

-- ---- the module that an import names

-- the module of a number, or the exception that there is none of this name
abbrev pub module_of : List ℕ → Option ℕ → Result PlainValue PlainRaised
module_of x None = Err (no_module x)
module_of x (Some m) = Ok (module_value (Loaded m))

-- the module of a name (Python Language Reference, 7.11)
abbrev pub imported : List Module → List ℕ → Result PlainValue PlainRaised
imported ms x =
    if is_same_text x (codes "sys") then Ok (module_value Sys) else module_of x
    (imported_number ms x)
