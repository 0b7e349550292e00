use Rattle.std.proofs.Common.{◌≡◌, ◌+◌, drop, length}
use Rattle.py_syntax.specs.View.{plain_patterns}
use Rattle.py_compile_expr.specs.Patterns.{captured_each}
use Rattle.py_compile_expr.proofs.patterns.+captures.Given as goal

abbrev pub invariant-captures_each-loop-item : goal.invariant-captures_each-loop-item
invariant-captures_each-loop-item l = l.count + length (captured_each (plain_patterns (drop l.item-index l.items))) ≡ length (captured_each (plain_patterns l.items))
