-- What is known of a program before it runs: its units, and what has a counter.
--     Named, named                  a unit's path, names and first line
--     IsFirst, HaveFirsts           the first lines that units may have
--     line_of, greatest, lines_to   the lines up to the greatest number of a set
--     counted                       what has a counter in a module
--     unit_at, path_at, set_at      by the numbers of a piece of code
--     Plan, plan_with, plan_of      the units and counted sets of each module
--     unit_of, set_of, path_of      of a plan
use Rattle.std.specs.Prelude.{ℕ, ◌≤◌, max, Bool, true, false, List, [], ◌∷◌, map, All, ℤ, pos, negsuc, Option, Some, None, slice_get, string_bytes}
use Rattle.std.specs.Option.{unwrap_or}
use Rattle.std.specs.List.{range_with_len}
use Rattle.cov_event.specs.declared.event.CodeId.{CodeId}
use Rattle.cov_data.specs.DataSet.{Text}
use Rattle.py_syntax.specs.Prediction.{Arc}
use Rattle.cov_recorder.specs.declared.names.UnitName.{UnitName}

-- the path of a unit's file, the names of its module and of itself, and its first line
pub record Named : Type 0 where
  pub path : Text
  pub «module» : Text
  pub function : Text
  pub first : ℕ

-- what a name of the code stands for
abbrev pub named : UnitName → Named
named n = record {
  path = string_bytes n.path;
  «module» = string_bytes n.module;
  function = string_bytes n.function;
  first = n.first;
}

-- one of the lines that a text may have
abbrev pub IsFirst : ℕ → Type 0
IsFirst line = (1 ≤ line) × (line ≤ 65535)

-- each unit begins in such a line
pub record HaveFirsts (units : List (List Named)) : Type 0 where
  pub firsts : All (λ names. All (λ name. IsFirst name.first) names) units

-- the line that a number of an arc is, or 0
abbrev pub line_of : ℤ → ℕ
line_of (pos n) = n
line_of (negsuc n) = 0

-- the greatest line among the numbers of a set
abbrev pub greatest : List Arc → ℕ
greatest [] = 0
greatest (a ∷ rest) = max (max (line_of a.0) (line_of a.1)) (greatest rest)

-- each line up to this one; a line stands in both numbers
abbrev pub lines_to : ℕ → List Arc
lines_to last = map (λ l. (pos l, pos l)) (range_with_len 1 last)

-- what has a counter: each arc of a set, and in line data each line up to its greatest number
abbrev pub counted : Bool → List Arc → List Arc
counted true set = set
counted false set = lines_to (greatest set)

-- a unit among those of its module
abbrev pub unit_in : Option (List Named) → ℕ → Option Named
unit_in None unit = None
unit_in (Some names) unit = slice_get names unit

-- the unit of a piece of code, where the units of the modules have it
abbrev pub unit_at : List (List Named) → CodeId → Option Named
unit_at units code = unit_in (slice_get units code.module) code.unit

-- the path of a name, if there is one
abbrev pub path_in : Option Named → Text
path_in None = []
path_in (Some name) = name.path

-- the path of a module is that of its body
abbrev pub path_at : List (List Named) → ℕ → Text
path_at units m = path_in (unit_in (slice_get units m) 0)

-- the set of a module, where there is one
abbrev pub set_at : List (List Arc) → ℕ → List Arc
set_at sets m = unwrap_or (slice_get sets m) []

-- the units of each module, what has a counter in each, whether the data are of arcs or of lines,
-- and the static context
pub record Plan : Type 0 where
  pub units : List (List Named)
  pub sets : List (List Arc)
  pub arcs : Bool
  pub fixed : Text

-- a plan of these parts
abbrev pub plan_with : List (List Named) → List (List Arc) → Bool → Text → Plan
plan_with units sets arcs fixed =
    record { units = units; sets = sets; arcs = arcs; fixed = fixed }

-- the plan of these units and sets
abbrev pub plan_of : List (List Named) → List (List Arc) → Bool → Text → Plan
plan_of units sets arcs fixed = plan_with units (map (counted arcs) sets) arcs fixed

-- the unit of a piece of code, where the plan has it
abbrev pub unit_of : Plan → CodeId → Option Named
unit_of plan code = unit_at plan.units code

-- what has a counter in a module
abbrev pub set_of : Plan → ℕ → List Arc
set_of plan m = set_at plan.sets m

-- the path of a module
abbrev pub path_of : Plan → ℕ → Text
path_of plan m = path_at plan.units m
