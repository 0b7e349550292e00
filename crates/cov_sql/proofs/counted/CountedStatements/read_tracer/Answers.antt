use Rattle.std.proofs.Common.{arith}
use Rattle.sqlite.specs.Held.{state}
use Rattle.cov_sql.specs.Tables.{tracer}
use Rattle.cov_sql.proofs.ReadTexts.{tells, leaves, reads_tracer}
use Rattle.cov_sql.proofs.counted.CountedStatements.read_tracer.Goals as goal

pub returns-clause-reads : goal.returns-clause-reads
returns-clause-reads g c _ = record {
  told = tells _ tracer reads_tracer (state g.S.Store c.args.base.now) (state g.S.Store c.read_rows.new.base) c.read_rows.result c.read_rows.ensures.told;
  survives = leaves _ tracer reads_tracer (state g.S.Store c.args.base.now) (state g.S.Store c.read_rows.new.base) c.read_rows.ensures.survives;
}

pub returns-clause-asks : goal.returns-clause-asks
returns-clause-asks g c = record { clean = λ clean. omega (arith, clean, c.read_rows.ensures.survives.clean); mode = c.read_rows.ensures.mode }
