use Rattle.std.proofs.Common.{drop}
use Rattle.py_syntax.specs.View.{plain_exprs, plain_pairs, plain_links, plain_fragments, plain_parts}
use Rattle.cov_pieces.specs.Pieces.{words}
use Rattle.cov_pieces.specs.Views.{Completes}
use Rattle.cov_pieces.specs.Words.{exprs_words, pairs_words, links_words, fragments_words, parts_words}
use Rattle.cov_pieces.proofs.expressions.+expr.Given as goal

abbrev pub invariant-exprs-loop-e : goal.invariant-exprs-loop-e
invariant-exprs-loop-e l = Completes l.initial.out l.out (words (exprs_words l.binds (plain_exprs (drop l.e-index l.items)))) (words (exprs_words l.binds (plain_exprs l.items)))

abbrev pub invariant-pairs-loop-pair : goal.invariant-pairs-loop-pair
invariant-pairs-loop-pair l = Completes l.initial.out l.out (words (pairs_words (plain_pairs (drop l.pair-index l.items)))) (words (pairs_words (plain_pairs l.items)))

abbrev pub invariant-links-loop-link : goal.invariant-links-loop-link
invariant-links-loop-link l = Completes l.initial.out l.out (words (links_words (plain_links (drop l.link-index l.items)))) (words (links_words (plain_links l.items)))

abbrev pub invariant-fragments-loop-item : goal.invariant-fragments-loop-item
invariant-fragments-loop-item l = Completes l.initial.out l.out (words (fragments_words (plain_fragments (drop l.item-index l.items)))) (words (fragments_words (plain_fragments l.items)))

abbrev pub invariant-parts-loop-item : goal.invariant-parts-loop-item
invariant-parts-loop-item l = Completes l.initial.out l.out (words (parts_words (plain_parts (drop l.item-index l.items)))) (words (parts_words (plain_parts l.items)))
