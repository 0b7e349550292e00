use Rattle.std.proofs.Common.{◌≡◌, ◌++◌, map, drop}
use Rattle.py_world.specs.Links.{numbers_count, names_count}
use Rattle.py_world.proofs.table.Table.add_units.Given as goal

abbrev pub invariant-loop-unit : goal.invariant-loop-unit
invariant-loop-unit l = map numbers_count l.links.items ++ map names_count (drop l.unit-index l.units) ≡ map names_count l.units
