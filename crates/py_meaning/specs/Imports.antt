-- What imports do (Python Language Reference, 5, "The import system", and 7.11).
use Rattle.std.specs.Prelude.{ℕ, if◌then◌else◌, List, [], ◌∷◌, Option, Some, None, Err, codes}
use Rattle.py_value.specs.declared.value.ModId.TheVariants.{Loaded, Sys}
use Rattle.py_text.specs.Comparison.{is_same_text}
use Rattle.py_value.specs.Plain.{PlainValue, module_value}
use Rattle.py_syntax.specs.Names.{alias_name}
use Rattle.py_syntax.specs.Tree.{Text, Alias}
use Rattle.py_builtins.specs.World.{is_begun}
use Rattle.py_meaning.specs.Calls.{Calls, enter}
use Rattle.py_meaning.specs.Computations.{Setting, Ans, M, give, read, write, value, ask}
use Rattle.py_meaning.specs.Expressions.{gives}
use Rattle.py_meaning.specs.Modules.{LoadedModule, imported_number}
use Rattle.py_meaning.specs.Places.{Place, bound}
use Rattle.py_builtins.specs.Faults.{no_module}
use Rattle.py_builtins.specs.Callees.{taken}

-- a module as a value
abbrev pub loaded_module : ℕ → PlainValue
loaded_module m = module_value (Loaded m)

-- The body of a module is entered where the module isn't begun. One in progress is taken as it is.
unfoldable pub begin : Calls → Text → Option ℕ → M (Ans PlainValue)
begin c x None = give (Err (no_module x))
begin c x (Some m) =
    read (λ w.
    if is_begun m w.world
    then gives (loaded_module m)
    else value (enter (c m 0 [])) (λ v. gives (loaded_module m)))

-- the module of a name; `sys` is built in
unfoldable pub module_of : Calls → List LoadedModule → Text → M (Ans PlainValue)
module_of c ms x =
    if is_same_text x (codes "sys")
    then gives (module_value Sys)
    else begin c x (imported_number ms x)

-- `import m as x, ..`
unfoldable pub import_each : Calls → Place → List Alias → M (Ans (Unit {0}))
import_each c p [] = gives tt
import_each c p (a ∷ rest) =
    value (module_of c p.modules a.name) (λ v.
    write (bound p.scope (alias_name a) v) (import_each c p rest))

-- the value of a name of a module
abbrev pub taken_in : Text → PlainValue → Text → Setting → Ans PlainValue
taken_in m v x w = taken m v x w.world

-- `from m import x as y, ..`, of the module's value
unfoldable pub take_each : Place → Text → PlainValue → List Alias → M (Ans (Unit {0}))
take_each p m v [] = gives tt
take_each p m v (a ∷ rest) =
    value (ask (taken_in m v a.name)) (λ u.
    write (bound p.scope (alias_name a) u) (take_each p m v rest))
