use Rattle.std.proofs.Common.{◌≡◌, ◌+◌, ◌++◌, drop}
use Rattle.py_syntax.specs.View.{plain_exprs}
use Rattle.py_compile_expr.specs.CellView.{plain_guard}
use Rattle.py_compile_expr.specs.Targets.{targets_size, targets_code}
use Rattle.py_compile_expr.proofs.targets.+targets.Given as goal

abbrev pub invariant-put_targets-loop-e : goal.invariant-put_targets-loop-e
invariant-put_targets-loop-e l = record {
  cells : l.out ++ targets_code (plain_guard l.guard) l.at (plain_exprs (drop l.e-index l.items)) ≡ l.initial.out ++ targets_code (plain_guard l.guard) l.initial.at (plain_exprs l.items);
  place : l.at + targets_size (plain_exprs (drop l.e-index l.items)) ≡ l.initial.at + targets_size (plain_exprs l.items);
}
