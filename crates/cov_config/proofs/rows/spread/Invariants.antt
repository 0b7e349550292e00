use Rattle.std.proofs.Common.{◌≡◌, ◌++◌, false, take, drop}
use Rattle.cov_config.specs.Rows.{spread}
use Rattle.cov_config.proofs.rows.spread.Given as goal

abbrev pub invariant-loop-place : goal.invariant-loop-place
invariant-loop-place l = take l.place-index l.row ++ spread l.reached (drop l.place-index l.row) ≡ spread false l.initial.row
