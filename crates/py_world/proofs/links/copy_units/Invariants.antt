use Rattle.std.proofs.Common.{◌≡◌, ◌++◌, map, drop}
use Rattle.py_world.specs.Links.{numbers_in}
use Rattle.py_world.proofs.links.copy_units.Given as goal

abbrev pub invariant-loop-numbers : goal.invariant-loop-numbers
invariant-loop-numbers l = map numbers_in l.copies.items ++ map numbers_in (drop l.numbers-index l.units) ≡ map numbers_in l.units
