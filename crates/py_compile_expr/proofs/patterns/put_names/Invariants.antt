use Rattle.std.proofs.Common.{◌≡◌, ◌+◌, ◌++◌, drop}
use Rattle.py_compile_expr.specs.CellView.{plain_guard}
use Rattle.py_compile_expr.specs.Patterns.{names_size, names_code}
use Rattle.py_compile_expr.proofs.patterns.put_names.Given as goal

abbrev pub invariant-loop-i : goal.invariant-loop-i
invariant-loop-i l = record {
  cells : l.out ++ names_code (plain_guard l.guard) (drop l.i l.names) ≡ l.initial.out ++ names_code (plain_guard l.guard) l.names;
  place : l.to + names_size (drop l.i l.names) ≡ l.initial.to + names_size l.names;
}
