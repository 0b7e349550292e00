use Rattle.std.proofs.Common.{Ok, map, take}
use Rattle.cov_sql.specs.Steps.{WorksBy}
use Rattle.cov_sql.specs.Holding.{with_rows, Fills}
use Rattle.cov_sql.specs.SavedRows.{name_of, row_in}
use Rattle.cov_sql.proofs.inserting.insert_rows.Given as goal

abbrev pub invariant-loop-row : goal.invariant-loop-row
invariant-loop-row g l = record {
  steps : WorksBy g.S.Store g.Q.Statements.tells g.Q.Statements.refusals l.fn.work l.work l.fn.by l.by (Ok tt);
  fills : g.Q.Statements.tells l.fn.by → Fills g.S.Store (with_rows (name_of l.table) (map (row_in l.table) (take l.row-index l.rows))) l.fn.work.conn.now l.work.conn.now (Ok tt);
}
