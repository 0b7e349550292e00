use Rattle.std.proofs.Common.{◌≡◌, ◌++◌, drop}
use Rattle.py_syntax.specs.View.{plain_exprs, plain_pairs, plain_links, plain_fragments, plain_parts}
use Rattle.py_scope.specs.Occurrences.{in_exprs, in_pairs, in_links, in_fragments, in_parts}
use Rattle.py_scope.proofs.expressions.+expr.Given as goal

abbrev pub invariant-exprs-loop-e : goal.invariant-exprs-loop-e
invariant-exprs-loop-e l = l.out.items ++ in_exprs (plain_exprs (drop l.e-index l.items)) ≡ l.initial.out.items ++ in_exprs (plain_exprs l.items)

abbrev pub invariant-pairs-loop-pair : goal.invariant-pairs-loop-pair
invariant-pairs-loop-pair l = l.out.items ++ in_pairs (plain_pairs (drop l.pair-index l.items)) ≡ l.initial.out.items ++ in_pairs (plain_pairs l.items)

abbrev pub invariant-links-loop-link : goal.invariant-links-loop-link
invariant-links-loop-link l = l.out.items ++ in_links (plain_links (drop l.link-index l.items)) ≡ l.initial.out.items ++ in_links (plain_links l.items)

abbrev pub invariant-fragments-loop-fragment : goal.invariant-fragments-loop-fragment
invariant-fragments-loop-fragment l = l.out.items ++ in_fragments (plain_fragments (drop l.fragment-index l.items)) ≡ l.initial.out.items ++ in_fragments (plain_fragments l.items)

abbrev pub invariant-parts-loop-part : goal.invariant-parts-loop-part
invariant-parts-loop-part l = l.out.items ++ in_parts (plain_parts (drop l.part-index l.items)) ≡ l.initial.out.items ++ in_parts (plain_parts l.items)
