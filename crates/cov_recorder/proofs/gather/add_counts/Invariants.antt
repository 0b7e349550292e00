use Rattle.std.proofs.Common.{◌≡◌, drop}
use Rattle.cov_recorder.specs.Rows.{with_counts}
use Rattle.cov_recorder.proofs.gather.add_counts.Given as goal

abbrev pub invariant-loop-place : goal.invariant-loop-place
invariant-loop-place l = record {
  rest : with_counts l.path l.context (drop l.place l.set) (drop l.place l.counts) l.data ≡ with_counts l.path l.context l.set l.counts l.initial.data;
  kind : l.data.arcs ≡ l.initial.data.arcs;
}
