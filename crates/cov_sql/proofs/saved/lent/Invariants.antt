use Rattle.std.proofs.Common.{take}
use Rattle.std.specs.List.{AllZip}
use Rattle.cov_sql.proofs.Contexts.{IsLentOf}
use Rattle.cov_sql.proofs.saved.lent.Given as goal

abbrev pub invariant-loop-text : goal.invariant-loop-text
invariant-loop-text l = AllZip IsLentOf (take l.text-index l.texts) l.all.items
