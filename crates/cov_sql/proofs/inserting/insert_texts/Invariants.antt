use Rattle.std.proofs.Common.{◌≡◌, Ok, pos, map, take, string_bytes}
use Rattle.cov_sql.specs.Steps.{WorksBy}
use Rattle.cov_sql.specs.Holding.{with_rows, Fills}
use Rattle.cov_sql.specs.SavedRows.{numbered, table_of}
use Rattle.cov_sql.proofs.inserting.insert_texts.Given as goal

abbrev pub invariant-loop-text : goal.invariant-loop-text
invariant-loop-text g l = record {
  number_is : l.number ≡ pos l.text-index;
  steps : WorksBy g.S.Store g.Q.Statements.tells g.Q.Statements.refusals l.fn.work l.work l.fn.by l.by (Ok tt);
  fills : g.Q.Statements.tells l.fn.by → Fills g.S.Store (with_rows (table_of l.kind) (numbered 1 (map string_bytes (take l.text-index l.texts)))) l.fn.work.conn.now l.work.conn.now (Ok tt);
}
