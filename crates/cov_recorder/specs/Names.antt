-- The units of the code.
use Rattle.std.specs.Prelude.{List, map}
use Rattle.std.specs.Global.{Vec}
use Rattle.cov_recorder.specs.declared.names.UnitName.{UnitName}
use Rattle.cov_recorder.specs.Plan.{Named, named}

-- the names of the units of each module
abbrev pub names_of : List (Vec UnitName) → List (List Named)
names_of units = map (λ names. map named names.items) units
