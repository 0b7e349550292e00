-- Globals in memory, as the definition has them.
--     names_of              the names that are set
--     IsSetAt, IsKnown      a name that is set, by its number
use Rattle.std.specs.Prelude.{◌≡◌, ℕ, List, Some, map, slice_get}
use Rattle.py_builtins.specs.World.{Names}
use Rattle.py_world.specs.declared.globals.Globals.{Globals}
use Rattle.py_world.specs.Numbered.{listed, times_named, plain_global, global_names}

-- the names that are set, in the order in which they were
abbrev pub names_of : Globals → Names
names_of g = listed (map plain_global g.items.items) g.order.items

-- the name at a number is set
abbrev pub IsSetAt : ℕ → Globals → Type 0
IsSetAt n g = times_named (slice_get (map plain_global g.items.items) n) ≡ 1

-- a name has a number and is set
abbrev pub IsKnown : List ℕ → ℕ → Globals → Type 0
IsKnown name n g = (slice_get (global_names g.items.items) n ≡ Some name) × IsSetAt n g
