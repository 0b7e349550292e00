use Rattle.std.proofs.Common.{rules, ◌≡◌, Ok, Err, sym, subst, map, take}
use Rattle.std.proofs.lemmas.List.{take_all}
use Rattle.cov_sql.specs.Holding.{with_rows, Fills}
use Rattle.cov_sql.specs.SavedRows.{name_of, row_in}
use Rattle.cov_sql.proofs.Stepping.{works_none, works_on, works_end}
use Rattle.cov_sql.proofs.Filling.{no_fill, fills_none, fills_more, map_got}
use Rattle.cov_sql.proofs.inserting.insert_rows.Goals as goal

pub returns-in_err-insert_row-clause-steps : goal.returns-in_err-insert_row-clause-steps
returns-in_err-insert_row-clause-steps g c =
    let is : c.from_residual.result ≡ Err c.in_err-insert_row.field-0.0 = search rules in
    works_end (works_on c.loop-row.invariant.steps c.in_err-insert_row.ensures.steps) is

pub returns-in_err-insert_row-clause-fills : goal.returns-in_err-insert_row-clause-fills
returns-in_err-insert_row-clause-fills g c tells =
    let table = c.args.table in
    let is : c.from_residual.result ≡ Err c.in_err-insert_row.field-0.0 = search rules in
    no_fill g.S.Store (with_rows (name_of table) (map (row_in table) c.args.rows.now)) c.args.work.now.conn.now c.insert_row.new.work.conn.now _ _ is

pub returns-clause-fills : goal.returns-clause-fills
returns-clause-fills g c tells =
    let table = c.args.table in
    subst (λ rows. Fills g.S.Store (with_rows (name_of table) (map (row_in table) rows)) c.args.work.now.conn.now c.loop-row.work.conn.now (Ok tt)) (take_all c.loop-row.row-index c.args.rows.now c.loop-row-test.false) (c.loop-row.invariant.fills tells)

pub loop-row-init : goal.loop-row-init
loop-row-init g c = record {
  steps = works_none _ _;
  fills = λ tells. fills_none g.S.Store (name_of c.args.table) c.args.work.now.conn.now;
}

pub loop-row-preserved : goal.loop-row-preserved
loop-row-preserved g c =
    let before = c.loop-row.invariant in
    let step = c.in_ok-insert_row.ensures.steps in
    let table = c.args.table in
    let all = c.args.rows.now in
    let i = c.loop-row.row-index in
    record {
      steps = works_on before.steps step;
      fills = λ tells.
          subst (λ rows. Fills g.S.Store (with_rows (name_of table) rows) c.args.work.now.conn.now c.insert_row.new.work.conn.now (Ok tt)) (sym (map_got (row_in table) all i _ c.loop-row-test.true))
          (fills_more (name_of table) (map (row_in table) (take i all)) _ before.steps step before.fills c.in_ok-insert_row.ensures.inserts tells);
    }
