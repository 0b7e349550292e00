use Rattle.std.proofs.Common.{Ok, take}
use Rattle.cov_sql.specs.Steps.{WorksBy}
use Rattle.cov_sql.specs.Making.{Builds}
use Rattle.cov_sql.proofs.preparing.make_tables.Given as goal

abbrev pub invariant-loop-table : goal.invariant-loop-table
invariant-loop-table g l = record {
  steps : WorksBy g.S.Store g.Q.Statements.tells g.Q.Statements.refusals l.fn.work l.work l.fn.by l.by (Ok tt);
  builds : g.Q.Statements.tells l.fn.by → Builds g.S.Store (take l.table-index l.tables) l.fn.work.conn.now l.work.conn.now (Ok tt);
}
