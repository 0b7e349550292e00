use Rattle.std.proofs.Common.{drop}
use Rattle.py_syntax.specs.View.{plain_exprs, plain_pairs, plain_links, plain_fragments, plain_parts}
use Rattle.py_changes.specs.Mutants.{exprs_mutants, pairs_mutants, links_mutants, fragments_mutants, parts_mutants}
use Rattle.cov_places.specs.ItemRows.{put_expr, put_pair, put_link, put_fragment, put_part}
use Rattle.cov_mutants_expr.specs.Rows.{Going}
use Rattle.cov_mutants_expr.specs.SearchView.{seen}
use Rattle.cov_mutants_expr.proofs.expressions.+copy.Given as goal

abbrev pub invariant-exprs-loop-e : goal.invariant-exprs-loop-e
invariant-exprs-loop-e l = Going put_expr exprs_mutants (seen l.initial.at) (seen l.at) (plain_exprs l.items) (plain_exprs (drop l.e-index l.items)) l.out.items

abbrev pub invariant-pairs-loop-pair : goal.invariant-pairs-loop-pair
invariant-pairs-loop-pair l = Going put_pair pairs_mutants (seen l.initial.at) (seen l.at) (plain_pairs l.items) (plain_pairs (drop l.pair-index l.items)) l.out.items

abbrev pub invariant-links-loop-link : goal.invariant-links-loop-link
invariant-links-loop-link l = Going put_link links_mutants (seen l.initial.at) (seen l.at) (plain_links l.items) (plain_links (drop l.link-index l.items)) l.out.items

abbrev pub invariant-fragments-loop-piece : goal.invariant-fragments-loop-piece
invariant-fragments-loop-piece l = Going put_fragment fragments_mutants (seen l.initial.at) (seen l.at) (plain_fragments l.items) (plain_fragments (drop l.piece-index l.items)) l.out.items

abbrev pub invariant-parts-loop-item : goal.invariant-parts-loop-item
invariant-parts-loop-item l = Going put_part parts_mutants (seen l.initial.at) (seen l.at) (plain_parts l.items) (plain_parts (drop l.item-index l.items)) l.out.items
