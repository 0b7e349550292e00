use Rattle.std.proofs.Common.{◌≡◌, ◌<◌, ◌^◌, take}
use Rattle.cov_recorder.specs.Plan.{greatest}
use Rattle.cov_recorder.proofs.sets.greatest.Given as goal

abbrev pub invariant-loop-place : goal.invariant-loop-place
invariant-loop-place l = record { value : l.most ≡ greatest (take l.place l.set); small : l.most < 2 ^ 31 }
