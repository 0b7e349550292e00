-- What a call does (Python Language Reference, 6.3.4, "Calls").
--     Calls                  what a call of a unit does
--     enter                  a unit is entered
--     use_builtin            a built-in function is called
--     call_value             a value is called
--     callee_in              what stands in front of a call's arguments
--     call_of                it is called
use Rattle.std.specs.Prelude.{ℕ, nat_lt, if◌then◌else◌, List, Option, Some, None, Err}
use Rattle.cov_event.specs.declared.event.CodeId.{CodeId}
use Rattle.py_value.specs.declared.builtin.Builtin.{Builtin}
use Rattle.py_value.specs.declared.cause.Cause.TheVariants.{NotCallable, WrongArgumentCount, TooDeep}
use Rattle.py_value.specs.declared.value.FuncId.{FuncId}
use Rattle.py_value.specs.Causes.{raised_by}
use Rattle.py_value.specs.Plain.{PlainValue, none_value, bool_value, int_value, str_value, tuple_value, list_at, dict_at, func_value, module_value, kind_value, exc_value, builtin_value}
use Rattle.py_syntax.specs.Tree.{Text}
use Rattle.py_builtins.specs.Builtins.{Done, builtin_of, exception_of}
use Rattle.py_builtins.specs.Methods.{method_of}
use Rattle.py_meaning.specs.Computations.{Setting, Ans, M, give, read, write, say, worked, work}
use Rattle.py_syntax.specs.Functions.{Function}
use Rattle.py_meaning.specs.Modules.{LoadedModule, function_found}
use Rattle.py_builtins.specs.Parameters.{most_frames, arguments, defaults_at}
use Rattle.py_builtins.specs.Callees.{Callee, a_value, a_method, callee_of}

-- what a call of a unit does, by the numbers of its module and of the unit in it, with values for
-- all its parameters
abbrev pub Calls : Type 0
Calls = (m u : ℕ) → List PlainValue → M (Ans PlainValue)

-- a unit is entered, where there may be one more frame
unfoldable pub enter : M (Ans PlainValue) → M (Ans PlainValue)
enter unit =
    read (λ w. if nat_lt w.frames most_frames then unit else give (Err (raised_by TooDeep)))

-- a function is entered with its values, unless they do not fit its parameters
abbrev pub enter_with : Calls → FuncId → Option (List PlainValue) → M (Ans PlainValue)
enter_with c f None = give (Err (raised_by WrongArgumentCount))
enter_with c f (Some vs) = enter (c f.module f.unit vs)

-- the setting with this input left
abbrev pub set_input : List ℕ → Setting → Setting
set_input bytes w = record w { input = bytes }

-- what a built-in function writes and reads, and then its answer
abbrev pub as_done : Done → M (Ans PlainValue)
as_done d = say d.written (write (set_input d.left) (worked d.answer))

-- a built-in function is used
unfoldable pub use_builtin : Builtin → List PlainValue → M (Ans PlainValue)
use_builtin which vs = read (λ w. as_done (builtin_of which vs w.world.heap w.input))

-- the code of a function
abbrev pub code_of : FuncId → CodeId
code_of f = record { «module» = f.module; unit = f.unit }

-- what can't be called raises
abbrev pub no_call : M (Ans PlainValue)
no_call = give (Err (raised_by NotCallable))

-- a function that no module has can't be called
abbrev pub call_function : Calls → Option Function → FuncId → Option ℕ → List PlainValue → Setting
    → M (Ans PlainValue)
call_function c None f a vs w = no_call
call_function c (Some g) f a vs w =
    enter_with c f (arguments g.params (defaults_at w.world.heap a) vs)

-- A value is called. First it is seen that it can be called with so many values, then that there
-- may be one more frame.
unfoldable pub call_value : Calls → List LoadedModule → PlainValue → List PlainValue
    → M (Ans PlainValue)
call_value c ms none_value vs = no_call
call_value c ms (bool_value b) vs = no_call
call_value c ms (int_value n) vs = no_call
call_value c ms (str_value s) vs = no_call
call_value c ms (tuple_value items) vs = no_call
call_value c ms (list_at a) vs = no_call
call_value c ms (dict_at a) vs = no_call
call_value c ms (func_value f a) vs =
    read (λ w. call_function c (function_found ms (code_of f)) f a vs w)
call_value c ms (module_value m) vs = no_call
call_value c ms (kind_value kind) vs = give (exception_of kind vs)
call_value c ms (exc_value kind arg) vs = no_call
call_value c ms (builtin_value which) vs = use_builtin which vs

-- what stands in front of a call's arguments
abbrev pub callee_in : PlainValue → Text → Setting → Ans Callee
callee_in v x w = callee_of v x w.world

-- what is called, a value or a method, with these values
unfoldable pub call_of : Calls → List LoadedModule → Callee → List PlainValue → M (Ans PlainValue)
call_of c ms (a_value v) vs = call_value c ms v vs
call_of c ms (a_method m v) vs = work (method_of m v vs)
