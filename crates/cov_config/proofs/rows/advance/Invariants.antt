use Rattle.std.proofs.Common.{◌≡◌, ◌++◌, false, take, drop}
use Rattle.cov_config.specs.Rows.{advanced}
use Rattle.cov_config.proofs.rows.advance.Given as goal

abbrev pub invariant-loop-i : goal.invariant-loop-i
invariant-loop-i l = take l.i l.row ++ advanced l.reached (drop l.i l.row) (drop l.i l.tests) ≡ advanced false l.initial.row l.tests
