use Rattle.std.proofs.Common.{Ok, map, take}
use Rattle.cov_sql.specs.declared.tables.Table.TheVariants as name
use Rattle.cov_sql.specs.Steps.{WorksBy}
use Rattle.cov_sql.specs.Holding.{with_rows, Fills}
use Rattle.cov_sql.specs.SavedRows.{bits_row}
use Rattle.cov_sql.proofs.inserting.insert_bits.Given as goal

abbrev pub invariant-loop-set : goal.invariant-loop-set
invariant-loop-set g l = record {
  steps : WorksBy g.S.Store g.Q.Statements.tells g.Q.Statements.refusals l.fn.work l.work l.fn.by l.by (Ok tt);
  fills : g.Q.Statements.tells l.fn.by → Fills g.S.Store (with_rows name.LineBits (map bits_row (take l.set-index l.bits))) l.fn.work.conn.now l.work.conn.now (Ok tt);
}
