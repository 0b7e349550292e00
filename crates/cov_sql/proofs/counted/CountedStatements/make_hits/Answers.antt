use Rattle.std.proofs.Common.{[]}
use Rattle.sqlite.specs.Held.{state}
use Rattle.cov_sql.specs.Tables.{hits}
use Rattle.cov_sql.specs.Declarations.{declared_hits}
use Rattle.cov_sql.proofs.CreateTexts.{makes_table, makes_hits}
use Rattle.cov_sql.proofs.Inside.{runs}
use Rattle.cov_sql.proofs.counted.CountedStatements.make_hits.Goals as goal

pub returns-clause-works : goal.returns-clause-works
returns-clause-works g c _ = record {
  told = makes_table _ hits declared_hits makes_hits (state g.S.Store c.args.work.now.conn.now) (state g.S.Store c.run.new.work.conn.now) c.run.result c.run.ensures.ran c.run.ensures.missing;
  ran = runs _ [] (state g.S.Store c.args.work.now.conn.now) (state g.S.Store c.run.new.work.conn.now) c.run.result c.run.ensures.ran c.run.ensures.missing c.run.ensures.kept;
  survives = c.run.ensures.survives;
}
