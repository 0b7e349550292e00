use Rattle.std.proofs.Common.{◌≡◌, ◌+◌, drop}
use Rattle.py_syntax.specs.View.{plain_exprs}
use Rattle.py_compile_expr.specs.Targets.{targets_size}
use Rattle.py_compile_expr.proofs.targets.+target_sizes.Given as goal

abbrev pub invariant-targets_size-loop-e : goal.invariant-targets_size-loop-e
invariant-targets_size-loop-e l = l.size + targets_size (plain_exprs (drop l.e-index l.items)) ≡ targets_size (plain_exprs l.items)
