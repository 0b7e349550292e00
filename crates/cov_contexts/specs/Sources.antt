-- Who gives labels.
use Rattle.std.specs.Prelude.{Bool, List, Option}

-- A hook or none, plugins in the order of asking, and whether the name rule gives labels.
pub record Sources (A P : Type 0) : Type 0 where
  pub hook : Option A
  pub plugins : List P
  pub by_name : Bool
