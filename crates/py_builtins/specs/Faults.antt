-- Exceptions that the language itself raises, besides those of its operators.
use Rattle.std.specs.Prelude.{ℕ, List, ◌++◌, codes}
use Rattle.py_value.specs.declared.exception.ExcKind.{ExcKind}
use Rattle.py_value.specs.declared.exception.ExcKind.TheVariants.{NameError, UnboundLocalError, ModuleNotFoundError, ImportError}
use Rattle.py_value.specs.Plain.{str_value, argument, PlainRaised}

-- of a kind, with a text
abbrev pub fault : ExcKind → List ℕ → PlainRaised
fault kind text = record { kind = kind; arg = argument (str_value text) }

-- a name is neither set nor predefined (Python Language Reference, 4.2.2)
abbrev pub name_unknown : List ℕ → PlainRaised
name_unknown x = fault NameError (codes "name '" ++ x ++ codes "' is not defined")

-- a local name is not set (Python Language Reference, 4.2.2)
abbrev pub local_unset : List ℕ → PlainRaised
local_unset x = fault UnboundLocalError (codes "local variable '" ++ x ++ codes "' is not set")

-- an import names no module (Python Language Reference, 5.2)
abbrev pub no_module : List ℕ → PlainRaised
no_module m = fault ModuleNotFoundError (codes "No module named '" ++ m ++ codes "'")

-- a module lacks the name that is imported from it (Python Language Reference, 7.11)
abbrev pub no_import : List ℕ → List ℕ → PlainRaised
no_import m x =
    fault ImportError (codes "cannot import name '" ++ x ++ codes "' from '" ++ m ++ codes "'")
