-- Names where they stand (Python Language Reference, 4.2, "Naming and binding").
use Rattle.std.specs.Prelude.{ℕ, if◌then◌else◌, List, Option}
use Rattle.py_value.specs.Plain.{PlainValue, PlainRaised}
use Rattle.py_syntax.specs.Tree.{Text}
use Rattle.py_syntax.specs.Names.{is_among}
use Rattle.py_builtins.specs.World.{value_of, with_name, without_name, global_of, with_global, without_global}
use Rattle.py_builtins.specs.Attributes.{or_raise}
use Rattle.py_meaning.specs.Computations.{Setting, Ans}
use Rattle.py_meaning.specs.Modules.{LoadedModule}
use Rattle.py_builtins.specs.Faults.{local_unset}
use Rattle.py_builtins.specs.Callees.{or_builtin}

-- What the text says of a place: the number of its module, and the local names of its body. The
-- body of a module has none.
pub record Scope : Type 0 where
  pub number : ℕ
  pub own : List Text

-- Where a part of a text stands: among these modules, in this scope, and in an `except` clause that
-- handles this exception.
pub record Place : Type 0 where
  pub modules : List LoadedModule
  pub scope : Scope
  pub handled : Option PlainRaised

-- the value of a name: of a local name, else of a global of the module, else of a built-in
abbrev pub fetched : Scope → Text → Setting → Ans PlainValue
fetched p x w =
    if is_among p.own x
    then or_raise (local_unset x) (value_of x w.locals)
    else or_builtin x (global_of p.number x w.world)

-- a name bound, and one unset
abbrev pub bound : Scope → Text → PlainValue → Setting → Setting
bound p x v w =
    if is_among p.own x
    then record w { locals = with_name x v w.locals }
    else record w { world = with_global p.number x v w.world }

-- the setting in which a name is unset
abbrev pub unbound : Scope → Text → Setting → Setting
unbound p x w =
    if is_among p.own x
    then record w { locals = without_name x w.locals }
    else record w { world = without_global p.number x w.world }
