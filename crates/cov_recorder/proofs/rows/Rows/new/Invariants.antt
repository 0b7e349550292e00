use Rattle.cov_recorder.proofs.Counting.{AreEmpty}
use Rattle.cov_recorder.proofs.rows.Rows.new.Given as goal

abbrev pub invariant-loop : goal.invariant-loop
invariant-loop l = AreEmpty l.numbers.items
