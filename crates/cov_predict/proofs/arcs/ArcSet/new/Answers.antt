use Rattle.std.proofs.Common.{◌∙◌, sym}
use Rattle.cov_predict.proofs.Sets.{sorted_and_deduped, arcs_in_order-is, by_ends-ties, by_ends-total, by_ends-IsAntisymmetric}
use Rattle.cov_predict.proofs.arcs.ArcSet.new.Goals as goal

pub invariant_of-result : goal.invariant_of-result
invariant_of-result c = record { rises = (sorted_and_deduped _ by_ends-total by_ends-IsAntisymmetric _ by_ends-ties _ _ _ c.sort_unstable.ensures.permutation c.sort_unstable.ensures.sorted c.dedup.ensures.filtered).1 }

pub returns : goal.returns
returns c = (sorted_and_deduped _ by_ends-total by_ends-IsAntisymmetric _ by_ends-ties _ _ _ c.sort_unstable.ensures.permutation c.sort_unstable.ensures.sorted c.dedup.ensures.filtered).0 ∙ sym (arcs_in_order-is c.args.arcs.items)
