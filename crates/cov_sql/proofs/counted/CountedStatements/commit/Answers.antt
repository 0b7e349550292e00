use Rattle.cov_sql.proofs.Inside.{undone_then}
use Rattle.cov_sql.proofs.counted.CountedStatements.commit.Goals as goal

pub returns-in-Err-clause-undone : goal.returns-in-Err-clause-undone
returns-in-Err-clause-undone g c clean inside = undone_then _ _ _ inside (c.in-Err.ensures.err clean)
