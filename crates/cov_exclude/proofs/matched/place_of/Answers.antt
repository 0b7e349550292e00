use Rattle.std.proofs.Common.{rules}
use Rattle.std.specs.Prelude.{nat_lt}
use Rattle.std.proofs.lemmas.List.Sorted.{IsPartitionPoint-from_clause, IsPartitionedBy-ltb}
use Rattle.std.proofs.lemmas.Map.Keys.{non_decreasing_from_sorted}
use Rattle.cov_exclude.proofs.matched.place_of.Goals as goal

pub returns : goal.returns
returns c =
    let parted = IsPartitionedBy-ltb (λ l. l) _ c.args.first (non_decreasing_from_sorted c.args.lines.now c.requires.rises) in
    IsPartitionPoint-from_clause (λ l. nat_lt l c.args.first) _ _ c.partition_point.ensures.partitioned parted (λ a r q k. search rules)
