use Rattle.std.proofs.Common.{◌≡◌, true, take}
use Rattle.std.specs.List.{list_all}
use Rattle.cov_suite.specs.Passing.{passes_in_code}
use Rattle.py_code.specs.Loaded.{modules_of}
use Rattle.py_world.specs.Stores.{world_of}
use Rattle.cov_suite.proofs.passing.each_passes.Given as goal

abbrev pub invariant-loop-name : goal.invariant-loop-name
invariant-loop-name l = list_all (passes_in_code (modules_of l.programs) (world_of l.imported) l.budget) (take l.name-index l.names) ≡ true
