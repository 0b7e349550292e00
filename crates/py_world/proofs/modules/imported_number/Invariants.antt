use Rattle.std.proofs.Common.{◌≡◌, ◌≤◌, ◌-◌, length, map, drop}
use Rattle.py_code.specs.Loaded.{module_of, modules_of}
use Rattle.py_code.specs.Units.{number_from, imported_number}
use Rattle.py_world.proofs.modules.imported_number.Given as goal

abbrev pub invariant-loop-number : goal.invariant-loop-number
invariant-loop-number l = record {
  first : 1 ≤ l.number;
  same : number_from l.number (map module_of (drop l.number l.programs.modules.items)) l.name ≡ imported_number (modules_of l.programs) l.name;
}

abbrev pub decreases-loop-number : goal.decreases-loop-number
decreases-loop-number l = length l.programs.modules.items - l.number
