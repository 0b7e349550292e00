use Rattle.std.proofs.Common.{take}
use Rattle.std.specs.List.{AllZip}
use Rattle.cov_sql.proofs.Contexts.{IsCopyOf}
use Rattle.cov_sql.proofs.saved.copied.Given as goal

abbrev pub invariant-loop-at : goal.invariant-loop-at
invariant-loop-at l = AllZip IsCopyOf (take l.at l.texts) l.all.items
