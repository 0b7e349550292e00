use Rattle.std.proofs.Common.{◌≡◌}
use Rattle.std.specs.List.{fold, flat_map}
use Rattle.std.specs.Ordering.{nat_cmp}
use Rattle.std.specs.BTreeSet.{insert_key}
use Rattle.std.specs.FinMap.{entries}
use Rattle.cov_data.specs.DataSet.{rekeyed}
use Rattle.cov_data.specs.Stored.{number_lines}
use Rattle.cov_data.proofs.tally.Tally.add_lines.Given as goal

abbrev pub invariant-loop-numbers : goal.invariant-loop-numbers
invariant-loop-numbers l = fold (insert_key nat_cmp) l.lines.keys (flat_map (λ e. number_lines e.0) (rekeyed (λ k. k) l.numbers-iterator)) ≡ fold (insert_key nat_cmp) l.initial.lines.keys (flat_map (λ e. number_lines e.0) (entries l.self))
