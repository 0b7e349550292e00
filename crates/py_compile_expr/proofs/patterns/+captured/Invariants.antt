use Rattle.std.proofs.Common.{◌≡◌, ◌++◌, drop}
use Rattle.py_syntax.specs.View.{plain_patterns}
use Rattle.py_compile_expr.specs.Patterns.{captured_each}
use Rattle.py_compile_expr.proofs.patterns.+captured.Given as goal

abbrev pub invariant-push_captured_each-loop-item : goal.invariant-push_captured_each-loop-item
invariant-push_captured_each-loop-item l = l.names.items ++ captured_each (plain_patterns (drop l.item-index l.items)) ≡ l.initial.names.items ++ captured_each (plain_patterns l.items)
