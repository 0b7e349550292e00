-- Where names of units stand among the globals of their modules.
--     numbers_in, units_in, links_in   the numbers in memory, as lists
--     link_of                          the number of a name of a unit
--     numbers_count, names_count       how many numbers, and how many names of a unit
use Rattle.std.specs.Prelude.{ℕ, List, [], length, map, Option, Some, None, slice_get, Vec}
use Rattle.std.specs.declared.alloc.Global.{Global}
use Rattle.cov_event.specs.declared.event.CodeId.{CodeId}
use Rattle.py_code.specs.declared.unit.Unit.{Unit as RawUnit}

-- the numbers of a unit's names
abbrev pub numbers_in : Vec ℕ Global → List ℕ
numbers_in ns = ns.items

-- those of the units of a module
abbrev pub units_in : Vec (Vec ℕ Global) Global → List (List ℕ)
units_in us = map numbers_in us.items

-- those of the units of all modules
abbrev pub links_in : List (Vec (Vec ℕ Global) Global) → List (List (List ℕ))
links_in ms = map units_in ms

-- a list, empty where there is none
abbrev pub list_in : {A : Type 0} → Option (List A) → List A
list_in None = []
list_in (Some xs) = xs

-- where a name of a code may stand, by its number there
abbrev pub link_of : List (List (List ℕ)) → CodeId → ℕ → Option ℕ
link_of ms code n =
    slice_get (list_in (slice_get (list_in (slice_get ms code.module)) code.unit)) n

-- how many numbers there are
abbrev pub numbers_count : Vec ℕ Global → ℕ
numbers_count ns = length ns.items

-- how many names a unit has
abbrev pub names_count : RawUnit → ℕ
names_count u = length u.names.items
