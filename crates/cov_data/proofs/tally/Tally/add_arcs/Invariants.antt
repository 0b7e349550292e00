use Rattle.std.proofs.Common.{◌≡◌, map}
use Rattle.std.specs.List.{fold}
use Rattle.std.specs.BTreeSet.{insert_key}
use Rattle.std.specs.FinMap.{entries}
use Rattle.cov_data.specs.DataSet.{rekeyed}
use Rattle.cov_data.specs.Rows.{arc_cmp}
use Rattle.cov_data.proofs.tally.Tally.add_arcs.Given as goal

abbrev pub invariant-loop-numbers : goal.invariant-loop-numbers
invariant-loop-numbers l = fold (insert_key arc_cmp) l.arcs.keys (map (λ e. e.0) (rekeyed (λ k. k) l.numbers-iterator)) ≡ fold (insert_key arc_cmp) l.initial.arcs.keys (map (λ e. e.0) (entries l.self))
