use Rattle.std.proofs.Common.{◌≡◌, ◌∷◌, true, false}
use Rattle.std.specs.Prelude.{replicate}
use Rattle.cov_config.proofs.rows.first_row.Given as goal

abbrev pub invariant-loop-place : goal.invariant-loop-place
invariant-loop-place l = l.row.items ≡ true ∷ replicate l._place false
