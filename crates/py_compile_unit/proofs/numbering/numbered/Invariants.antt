use Rattle.std.proofs.Common.{◌≡◌, ◌++◌, map, drop}
use Rattle.py_compile_expr.specs.Cells.{tables_of}
use Rattle.py_compile_expr.specs.CellView.{plain_cell}
use Rattle.py_compile_unit.specs.Lists.{plain_lists, instrs_of}
use Rattle.py_compile_unit.proofs.numbering.numbered.Given as goal

abbrev pub invariant-loop-cell : goal.invariant-loop-cell
invariant-loop-cell l = record {
  lists : tables_of (plain_lists l.lists) (map plain_cell (drop l.cell-index l.cells)) ≡ tables_of (plain_lists l.initial.lists) (map plain_cell l.cells);
  instrs : l.instrs.items ++ instrs_of (tables_of (plain_lists l.initial.lists) (map plain_cell l.cells)) (map plain_cell (drop l.cell-index l.cells)) ≡ instrs_of (tables_of (plain_lists l.initial.lists) (map plain_cell l.cells)) (map plain_cell l.cells);
}
