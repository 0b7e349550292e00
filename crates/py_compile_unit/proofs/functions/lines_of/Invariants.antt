use Rattle.std.proofs.Common.{◌≡◌, ◌++◌, map, drop}
use Rattle.py_compile_unit.specs.Defs.{definition_of, line_of}
use Rattle.py_compile_unit.proofs.functions.lines_of.Given as goal

abbrev pub invariant-loop-def : goal.invariant-loop-def
invariant-loop-def l = l.lines.items ++ map line_of (map definition_of (drop l.def-index l.defs)) ≡ map line_of (map definition_of l.defs)
