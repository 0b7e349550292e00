use Rattle.std.proofs.Common.{◌≡◌, ◌+◌, ◌++◌, drop}
use Rattle.py_syntax.specs.View.{plain_exprs, plain_pairs, plain_links, plain_fragments, plain_parts}
use Rattle.py_compile_expr.specs.CellView.{plain_guard}
use Rattle.py_compile_expr.specs.Expressions.{each_size, each_code, pairs_size, pairs_code, fragments_size, fragments_code, parts_size, parts_code}
use Rattle.py_compile_expr.proofs.Chains.{rest_size, rest_code}
use Rattle.py_compile_expr.proofs.expressions.+expressions.Given as goal

abbrev pub invariant-put_each-loop-e : goal.invariant-put_each-loop-e
invariant-put_each-loop-e l = record {
  cells : l.out ++ each_code (plain_guard l.guard) l.to (plain_exprs (drop l.e-index l.items)) ≡ l.initial.out ++ each_code (plain_guard l.guard) l.initial.to (plain_exprs l.items);
  place : l.to + each_size (plain_exprs (drop l.e-index l.items)) ≡ l.initial.to + each_size (plain_exprs l.items);
}

abbrev pub invariant-put_pairs-loop-pair : goal.invariant-put_pairs-loop-pair
invariant-put_pairs-loop-pair l = record {
  cells : l.out ++ pairs_code (plain_guard l.guard) l.to (plain_pairs (drop l.pair-index l.items)) ≡ l.initial.out ++ pairs_code (plain_guard l.guard) l.initial.to (plain_pairs l.items);
  place : l.to + pairs_size (plain_pairs (drop l.pair-index l.items)) ≡ l.initial.to + pairs_size (plain_pairs l.items);
}

abbrev pub invariant-put_links-loop-i : goal.invariant-put_links-loop-i
invariant-put_links-loop-i l = record {
  cells : l.out ++ rest_code (plain_guard l.guard) l.to l.end (plain_links (drop l.i l.items)) ≡ l.initial.out ++ rest_code (plain_guard l.guard) l.initial.to l.end (plain_links l.items);
  place : l.to + rest_size (plain_links (drop l.i l.items)) ≡ l.initial.to + rest_size (plain_links l.items);
}

abbrev pub invariant-put_fragments-loop-fragment : goal.invariant-put_fragments-loop-fragment
invariant-put_fragments-loop-fragment l = record {
  cells : l.out ++ fragments_code (plain_guard l.guard) l.to (plain_fragments (drop l.fragment-index l.items)) ≡ l.initial.out ++ fragments_code (plain_guard l.guard) l.initial.to (plain_fragments l.items);
  place : l.to + fragments_size (plain_fragments (drop l.fragment-index l.items)) ≡ l.initial.to + fragments_size (plain_fragments l.items);
}

abbrev pub invariant-put_parts-loop-part : goal.invariant-put_parts-loop-part
invariant-put_parts-loop-part l = record {
  cells : l.out ++ parts_code (plain_guard l.guard) l.to (plain_parts (drop l.part-index l.items)) ≡ l.initial.out ++ parts_code (plain_guard l.guard) l.initial.to (plain_parts l.items);
  place : l.to + parts_size (plain_parts (drop l.part-index l.items)) ≡ l.initial.to + parts_size (plain_parts l.items);
}
