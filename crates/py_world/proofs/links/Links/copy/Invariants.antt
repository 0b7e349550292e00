use Rattle.std.proofs.Common.{◌≡◌, ◌++◌, map, drop}
use Rattle.py_world.specs.Links.{units_in}
use Rattle.py_world.proofs.links.Links.copy.Given as goal

abbrev pub invariant-loop-units : goal.invariant-loop-units
invariant-loop-units l = map units_in l.modules.items ++ map units_in (drop l.units-index l.units-items) ≡ map units_in l.units-items
