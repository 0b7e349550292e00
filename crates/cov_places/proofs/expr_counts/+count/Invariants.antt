use Rattle.std.proofs.Common.{◌≡◌, drop}
use Rattle.py_syntax.specs.View.{plain_exprs, plain_pairs, plain_links, plain_fragments, plain_parts}
use Rattle.py_changes.specs.Mutants.{exprs_mutants, pairs_mutants, links_mutants, fragments_mutants, parts_mutants}
use Rattle.cov_places.specs.Counting.{counted}
use Rattle.cov_places.proofs.expr_counts.+count.Given as goal

abbrev pub invariant-exprs-loop-e : goal.invariant-exprs-loop-e
invariant-exprs-loop-e l = counted l.count (exprs_mutants (plain_exprs (drop l.e-index l.items))) ≡ counted l.so_far (exprs_mutants (plain_exprs l.items))

abbrev pub invariant-pairs-loop-pair : goal.invariant-pairs-loop-pair
invariant-pairs-loop-pair l = counted l.count (pairs_mutants (plain_pairs (drop l.pair-index l.items))) ≡ counted l.so_far (pairs_mutants (plain_pairs l.items))

abbrev pub invariant-links-loop-link : goal.invariant-links-loop-link
invariant-links-loop-link l = counted l.count (links_mutants (plain_links (drop l.link-index l.items))) ≡ counted l.so_far (links_mutants (plain_links l.items))

abbrev pub invariant-fragments-loop-piece : goal.invariant-fragments-loop-piece
invariant-fragments-loop-piece l = counted l.count (fragments_mutants (plain_fragments (drop l.piece-index l.items))) ≡ counted l.so_far (fragments_mutants (plain_fragments l.items))

abbrev pub invariant-parts-loop-item : goal.invariant-parts-loop-item
invariant-parts-loop-item l = counted l.count (parts_mutants (plain_parts (drop l.item-index l.items))) ≡ counted l.so_far (parts_mutants (plain_parts l.items))
