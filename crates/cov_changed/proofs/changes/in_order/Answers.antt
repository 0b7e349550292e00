use Rattle.std.proofs.Common.{sym, ◌∙◌}
use Rattle.std.specs.Cmp.{unsigned_ties}
use Rattle.std.specs.FinMap.{nat_cmp-IsAntisymmetric}
use Rattle.std.specs.Ordering.{nat_cmp}
use Rattle.std.proofs.lemmas.Cmp.{nat_cmp_total}
use Rattle.cov_predict.proofs.Sets.{sorted_and_deduped, in_order-is}
use Rattle.cov_changed.proofs.changes.in_order.Goals as goal

pub returns : goal.returns
returns c =
    (sorted_and_deduped nat_cmp nat_cmp_total nat_cmp-IsAntisymmetric _ unsigned_ties _ _ _ c.sort_unstable.ensures.permutation c.sort_unstable.ensures.sorted c.dedup.ensures.filtered).0
    ∙ sym (in_order-is c.args.lines.items)
