use Rattle.std.proofs.Common.{◌≡◌, ◌++◌, map, drop}
use Rattle.py_compile_expr.specs.CellView.{plain_guard, plain_cell}
use Rattle.py_compile.specs.Units.{ranges, handlers_of}
use Rattle.py_compile_unit.proofs.handlers.handlers_of.Given as goal

abbrev pub invariant-loop-cell : goal.invariant-loop-cell
invariant-loop-cell l = l.handlers.items ++ ranges l.range.from (plain_guard l.range.guard) l.at (map plain_cell (drop l.cell-index l.cells)) ≡ handlers_of (map plain_cell l.cells)
