use Rattle.std.proofs.Common.{[]}
use Rattle.sqlite.specs.Held.{state}
use Rattle.cov_sql.specs.Tables.{arc}
use Rattle.cov_sql.proofs.DeleteTexts.{deletes, deletes_arc}
use Rattle.cov_sql.proofs.Inside.{runs}
use Rattle.cov_sql.proofs.counted.CountedStatements.delete_arc.Goals as goal

pub returns-clause-works : goal.returns-clause-works
returns-clause-works g c _ = record {
  told = deletes _ arc deletes_arc (state g.S.Store c.args.work.now.conn.now) (state g.S.Store c.run.new.work.conn.now) c.run.result c.run.ensures.ran;
  ran = runs _ [] (state g.S.Store c.args.work.now.conn.now) (state g.S.Store c.run.new.work.conn.now) c.run.result c.run.ensures.ran c.run.ensures.missing c.run.ensures.kept;
  survives = c.run.ensures.survives;
}
