use Rattle.std.proofs.Common.{◌≡◌, ◌+◌, drop}
use Rattle.py_syntax.specs.View.{plain_exprs}
use Rattle.py_compile_expr.specs.Targets.{all_size}
use Rattle.py_compile_expr.proofs.targets.all_size.Given as goal

abbrev pub invariant-loop-e : goal.invariant-loop-e
invariant-loop-e l = l.size + all_size (plain_exprs (drop l.e-index l.items)) ≡ 1 + all_size (plain_exprs l.items)
