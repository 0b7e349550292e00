use Rattle.std.proofs.Common.{[], ◌∷◌}
use Rattle.std.proofs.Math.Facts.{to_z-of_z}
use Rattle.sqlite_value.specs.declared.value.Value.TheVariants.{Int}
use Rattle.sqlite.specs.Held.{state}
use Rattle.cov_sql.proofs.InsertIntoCoverageSchema.{inserts_coverage_schema}
use Rattle.cov_sql.proofs.Inside.{runs}
use Rattle.cov_sql.proofs.counted.CountedStatements.insert_coverage_schema.Goals as goal

pub returns-clause-works : goal.returns-clause-works
returns-clause-works g c _ = record {
  told = inserts_coverage_schema c.args.version (state g.S.Store c.args.work.now.conn.now) (state g.S.Store c.run.new.work.conn.now) c.run.result _ c.run.ensures.ran (λ i. Int (to_z-of_z c.ranges.version i) ∷ []);
  ran = runs _ _ (state g.S.Store c.args.work.now.conn.now) (state g.S.Store c.run.new.work.conn.now) c.run.result c.run.ensures.ran c.run.ensures.missing c.run.ensures.kept;
  survives = c.run.ensures.survives;
}
