use Rattle.std.proofs.Common.{◌≡◌, ◌+◌, drop}
use Rattle.py_syntax.specs.View.{plain_exprs, plain_pairs, plain_links, plain_fragments, plain_parts}
use Rattle.py_compile_expr.specs.Expressions.{each_size, pairs_size, fragments_size, parts_size}
use Rattle.py_compile_expr.proofs.Chains.{rest_size}
use Rattle.py_compile_expr.proofs.expr_sizes.+sizes.Given as goal

abbrev pub invariant-each_size-loop-e : goal.invariant-each_size-loop-e
invariant-each_size-loop-e l = l.size + each_size (plain_exprs (drop l.e-index l.items)) ≡ each_size (plain_exprs l.items)

abbrev pub invariant-pairs_size-loop-pair : goal.invariant-pairs_size-loop-pair
invariant-pairs_size-loop-pair l = l.size + pairs_size (plain_pairs (drop l.pair-index l.items)) ≡ pairs_size (plain_pairs l.items)

abbrev pub invariant-links_size-loop-link : goal.invariant-links_size-loop-link
invariant-links_size-loop-link l = l.size + rest_size (plain_links (drop l.link-index l.items)) ≡ rest_size (plain_links l.items)

abbrev pub invariant-fragments_size-loop-fragment : goal.invariant-fragments_size-loop-fragment
invariant-fragments_size-loop-fragment l = l.size + fragments_size (plain_fragments (drop l.fragment-index l.items)) ≡ fragments_size (plain_fragments l.items)

abbrev pub invariant-parts_size-loop-part : goal.invariant-parts_size-loop-part
invariant-parts_size-loop-part l = l.size + parts_size (plain_parts (drop l.part-index l.items)) ≡ parts_size (plain_parts l.items)
