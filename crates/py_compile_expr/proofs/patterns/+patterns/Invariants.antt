use Rattle.std.proofs.Common.{◌≡◌, ◌+◌, ◌++◌, drop}
use Rattle.py_syntax.specs.View.{plain_patterns}
use Rattle.py_compile_expr.specs.CellView.{plain_site}
use Rattle.py_compile_expr.specs.Patterns.{items_size, items_code}
use Rattle.py_compile_expr.proofs.Alternatives.{left_size, left_code}
use Rattle.py_compile_expr.proofs.patterns.+patterns.Given as goal

abbrev pub invariant-put_items-loop-i : goal.invariant-put_items-loop-i
invariant-put_items-loop-i l = record {
  cells : l.out ++ items_code (plain_site l.here) l.to (plain_patterns (drop l.i l.items)) ≡ l.initial.out ++ items_code (plain_site l.initial.here) l.initial.to (plain_patterns l.items);
  place : l.to + items_size (plain_patterns (drop l.i l.items)) ≡ l.initial.to + items_size (plain_patterns l.items);
}

abbrev pub invariant-put_one-loop-i : goal.invariant-put_one-loop-i
invariant-put_one-loop-i l = record {
  cells : l.out ++ left_code (plain_site l.site) l.to l.end (plain_patterns (drop l.i l.items)) ≡ l.initial.out ++ left_code (plain_site l.site) l.initial.to l.end (plain_patterns l.items);
  place : l.to + left_size (plain_patterns (drop l.i l.items)) ≡ l.initial.to + left_size (plain_patterns l.items);
}
