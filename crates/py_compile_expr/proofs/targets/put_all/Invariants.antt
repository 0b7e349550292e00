use Rattle.std.proofs.Common.{◌≡◌, ◌+◌, ◌++◌, drop}
use Rattle.py_syntax.specs.View.{plain_exprs}
use Rattle.py_compile_expr.specs.CellView.{plain_guard}
use Rattle.py_compile_expr.specs.Targets.{all_size, all_code}
use Rattle.py_compile_expr.proofs.targets.put_all.Given as goal

abbrev pub invariant-loop-e : goal.invariant-loop-e
invariant-loop-e l = record {
  cells : l.out ++ all_code (plain_guard l.guard) l.to (plain_exprs (drop l.e-index l.items)) ≡ l.initial.out ++ all_code (plain_guard l.guard) l.initial.to (plain_exprs l.items);
  place : l.to + all_size (plain_exprs (drop l.e-index l.items)) ≡ l.initial.to + all_size (plain_exprs l.items);
}
