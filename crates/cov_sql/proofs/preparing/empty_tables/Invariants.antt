use Rattle.std.proofs.Common.{Ok, take}
use Rattle.cov_sql.specs.Steps.{WorksBy}
use Rattle.cov_sql.specs.Holding.{cleared_all, Empties}
use Rattle.cov_sql.proofs.preparing.empty_tables.Given as goal

abbrev pub invariant-loop-table : goal.invariant-loop-table
invariant-loop-table g l = record {
  steps : WorksBy g.S.Store g.Q.Statements.tells g.Q.Statements.refusals l.fn.work l.work l.fn.by l.by (Ok tt);
  empties : g.Q.Statements.tells l.fn.by → Empties g.S.Store (cleared_all (take l.table-index l.tables)) l.fn.work.conn.now l.work.conn.now (Ok tt);
}
