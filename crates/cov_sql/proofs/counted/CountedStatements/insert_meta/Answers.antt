use Rattle.std.proofs.Common.{[], ◌∷◌}
use Rattle.sqlite_value.specs.declared.value.Value.TheVariants.{Text}
use Rattle.sqlite.specs.Held.{state}
use Rattle.cov_sql.proofs.InsertIntoMeta.{inserts_meta}
use Rattle.cov_sql.proofs.Inside.{runs}
use Rattle.cov_sql.proofs.counted.CountedStatements.insert_meta.Goals as goal

pub returns-clause-works : goal.returns-clause-works
returns-clause-works g c _ = record {
  told = inserts_meta c.args.key.now c.args.value.now (state g.S.Store c.args.work.now.conn.now) (state g.S.Store c.run.new.work.conn.now) c.run.result _ c.run.ensures.ran (λ i. Text (c.as_bytes.ensures.value i) ∷ Text (c.as_bytes-2.ensures.value i) ∷ []);
  ran = runs _ _ (state g.S.Store c.args.work.now.conn.now) (state g.S.Store c.run.new.work.conn.now) c.run.result c.run.ensures.ran c.run.ensures.missing c.run.ensures.kept;
  survives = c.run.ensures.survives;
}
