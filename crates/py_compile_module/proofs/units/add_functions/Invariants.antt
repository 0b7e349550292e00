use Rattle.std.proofs.Common.{◌≡◌, ◌++◌, List, map, drop}
use Rattle.py_code.specs.Units.{plain_unit}
use Rattle.py_compile.specs.Units.{function_code}
use Rattle.py_compile_module.specs.Scoped.{DefsBeginAt}
use Rattle.py_syntax.specs.Functions.{Function}
use Rattle.py_compile_unit.specs.Defs.{definition_of}
use Rattle.py_compile_module.proofs.units.add_functions.Given as goal

abbrev pub invariant-loop-at : goal.invariant-loop-at
invariant-loop-at l =
    (fs : List Function) → DefsBeginAt fs l.places
    → map plain_unit l.units.items ++ map (function_code fs) (map definition_of (drop l.at l.defs))
    ≡ map plain_unit l.initial.units.items ++ map (function_code fs) (map definition_of l.defs)
