-- A program that can be loaded: an empty script.
use Rattle.std.specs.Prelude.{[], ◌∷◌, Some, None}
use Rattle.py_syntax.specs.Tree.{Text, no_stmts}
use Rattle.cov_run.specs.Loading.{Told, IsLoaded}

-- the script is empty, and there is no other file
abbrev pub empty_script : Told
empty_script = record { script = Some []; modules = λ name. None }

-- it is loaded as the module without statements
abbrev pub EmptyLoads : Type 0
EmptyLoads =
    (script name : Text)
    → IsLoaded empty_script script name
    (record { name = name; path = script; body = no_stmts } ∷ [])
