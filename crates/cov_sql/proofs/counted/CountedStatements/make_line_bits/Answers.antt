use Rattle.std.proofs.Common.{[]}
use Rattle.sqlite.specs.Held.{state}
use Rattle.cov_sql.specs.Tables.{line_bits}
use Rattle.cov_sql.specs.Declarations.{declared_line_bits}
use Rattle.cov_sql.proofs.CreateTexts.{makes_table, makes_line_bits}
use Rattle.cov_sql.proofs.Inside.{runs}
use Rattle.cov_sql.proofs.counted.CountedStatements.make_line_bits.Goals as goal

pub returns-clause-works : goal.returns-clause-works
returns-clause-works g c _ = record {
  told = makes_table _ line_bits declared_line_bits makes_line_bits (state g.S.Store c.args.work.now.conn.now) (state g.S.Store c.run.new.work.conn.now) c.run.result c.run.ensures.ran c.run.ensures.missing;
  ran = runs _ [] (state g.S.Store c.args.work.now.conn.now) (state g.S.Store c.run.new.work.conn.now) c.run.result c.run.ensures.ran c.run.ensures.missing c.run.ensures.kept;
  survives = c.run.ensures.survives;
}
