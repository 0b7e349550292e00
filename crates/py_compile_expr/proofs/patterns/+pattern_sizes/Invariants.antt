use Rattle.std.proofs.Common.{◌≡◌, ◌+◌, drop}
use Rattle.py_syntax.specs.View.{plain_patterns}
use Rattle.py_compile_expr.specs.Patterns.{items_size}
use Rattle.py_compile_expr.proofs.Alternatives.{left_size}
use Rattle.py_compile_expr.proofs.patterns.+pattern_sizes.Given as goal

abbrev pub invariant-items_size-loop-item : goal.invariant-items_size-loop-item
invariant-items_size-loop-item l = l.size + items_size (plain_patterns (drop l.item-index l.items)) ≡ items_size (plain_patterns l.items)

abbrev pub invariant-one_size-loop-i : goal.invariant-one_size-loop-i
invariant-one_size-loop-i l = l.size + left_size (plain_patterns (drop l.i l.items)) ≡ left_size (plain_patterns l.items)
