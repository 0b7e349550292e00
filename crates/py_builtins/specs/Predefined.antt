-- Names that a module finds where it sets none of its own: the built-in functions and the kinds of
-- exceptions (Python Library Reference, "Built-in Functions", "Built-in Exceptions").
use Rattle.std.specs.Prelude.{ℕ, List, [], ◌∷◌, ◌++◌, map}
use Rattle.py_value.specs.declared.builtin.Builtin.{Builtin}
use Rattle.py_value.specs.declared.builtin.Builtin.TheVariants.{Print, Len, Range, Str, Repr, Int, Input}
use Rattle.py_value.specs.declared.exception.ExcKind.{ExcKind}
use Rattle.py_value.specs.declared.exception.ExcKind.TheVariants.{BaseException, SystemExit, Exception, ArithmeticError, ZeroDivisionError, OverflowError, AssertionError, AttributeError, EOFError, ImportError, ModuleNotFoundError, LookupError, IndexError, KeyError, MemoryError, NameError, UnboundLocalError, RuntimeError, RecursionError, TypeError, ValueError}
use Rattle.py_value.specs.Plain.{PlainValue, kind_value, builtin_value}
use Rattle.py_builtins.specs.Displays.{kind_name, builtin_name}
use Rattle.py_builtins.specs.World.{Names}

-- the built-in functions but `exit`, which is a name of `sys`
abbrev pub builtins : List Builtin
builtins = Print ∷ Len ∷ Range ∷ Str ∷ Repr ∷ Int ∷ Input ∷ []

-- the kinds of exceptions
abbrev pub kinds : List ExcKind
kinds =
    BaseException ∷ SystemExit ∷ Exception ∷ ArithmeticError ∷ ZeroDivisionError ∷
    OverflowError ∷ AssertionError ∷ AttributeError ∷ EOFError ∷ ImportError ∷
    ModuleNotFoundError ∷ LookupError ∷ IndexError ∷ KeyError ∷ MemoryError ∷ NameError ∷
    UnboundLocalError ∷ RuntimeError ∷ RecursionError ∷ TypeError ∷ ValueError ∷ []

-- the name of a built-in function, and the function as a value
abbrev pub builtin_pair : Builtin → List ℕ × PlainValue
builtin_pair f = (builtin_name f, builtin_value f)

-- the name of a kind of exceptions, and the kind as a value
abbrev pub kind_pair : ExcKind → List ℕ × PlainValue
kind_pair kind = (kind_name kind, kind_value kind)

-- the predefined names with their values
abbrev pub predefined : Names
predefined = map builtin_pair builtins ++ map kind_pair kinds
