use Rattle.std.proofs.Common.{rules, ◌≡◌, [], Ok, Err, ap, subst, ◌∙◌, map, cond}
use Rattle.cov_sql.specs.declared.tables.Table.TheVariants as name
use Rattle.cov_sql.specs.Holding.{with_rows, Fills}
use Rattle.cov_sql.specs.SavedRows.{arc_row, bits_row, hits_row, with_data}
use Rattle.cov_sql.proofs.Stepping.{works_on, works_end}
use Rattle.cov_sql.proofs.Filling.{no_fill, fills_on, arcs_if}
use Rattle.cov_sql.proofs.inserting.insert_data.Goals as goal

pub returns-in_err-insert_rows-clause-steps : goal.returns-in_err-insert_rows-clause-steps
returns-in_err-insert_rows-clause-steps g c =
    let is : c.from_residual.result ≡ Err c.in_err-insert_rows.field-0.0 = search rules in
    works_end c.in_err-insert_rows.ensures.steps is

pub returns-in_err-insert_rows-clause-fills : goal.returns-in_err-insert_rows-clause-fills
returns-in_err-insert_rows-clause-fills g c tells =
    let is : c.from_residual.result ≡ Err c.in_err-insert_rows.field-0.0 = search rules in
    no_fill g.S.Store (with_data c.args.saved.now) c.args.work.now.conn.now c.insert_rows.new.work.conn.now _ _ is

pub returns-in_err-insert_bits-clause-steps : goal.returns-in_err-insert_bits-clause-steps
returns-in_err-insert_bits-clause-steps g c =
    let is : c.from_residual-in_err-insert_bits.result ≡ Err c.in_err-insert_bits.field-0.0 = search rules in
    works_end (works_on c.in_ok-insert_rows.ensures.steps c.in_err-insert_bits.ensures.steps) is

pub returns-in_err-insert_bits-clause-fills : goal.returns-in_err-insert_bits-clause-fills
returns-in_err-insert_bits-clause-fills g c tells =
    let is : c.from_residual-in_err-insert_bits.result ≡ Err c.in_err-insert_bits.field-0.0 = search rules in
    no_fill g.S.Store (with_data c.args.saved.now) c.args.work.now.conn.now c.insert_bits.new.work.conn.now _ _ is

pub returns-clause-steps : goal.returns-clause-steps
returns-clause-steps g c = works_on (works_on c.in_ok-insert_rows.ensures.steps c.in_ok-insert_bits.ensures.steps) c.insert_rows-2.ensures.steps

pub returns-clause-fills : goal.returns-clause-fills
returns-clause-fills g c =
    let s = c.args.saved.now in
    let first = c.args.work.now.conn.now in
    let one = c.insert_rows.new.work.conn.now in
    let two = c.insert_bits.new.work.conn.now in
    let last = c.insert_rows-2.new.work.conn.now in
    let arcs = with_rows name.Arc (cond s.arcs (map arc_row s.rows.items) []) in
    let bits = with_rows name.LineBits (map bits_row s.bits.items) in
    let counts = with_rows name.Hits (map hits_row s.rows.items) in
    let both = works_on c.in_ok-insert_rows.ensures.steps c.in_ok-insert_bits.ensures.steps in
    let arcs_are = ap (map arc_row) c.arc_rows-arcs.ensures ∙ arcs_if s.arcs s.rows.items in
    fills_on (λ rows. bits (arcs rows)) counts both c.insert_rows-2.ensures.steps
    (fills_on arcs bits c.in_ok-insert_rows.ensures.steps c.in_ok-insert_bits.ensures.steps (λ tells. subst (λ rows. Fills g.S.Store (with_rows name.Arc rows) first one (Ok c.in_ok-insert_rows.field-0)) arcs_are (c.in_ok-insert_rows.ensures.fills tells))
    (λ told. subst (λ xs. Fills g.S.Store (with_rows name.LineBits (map bits_row xs)) one two (Ok c.in_ok-insert_bits.field-0)) c.as_slice-bits.ensures.value (c.in_ok-insert_bits.ensures.fills told)))
    (λ told. subst (λ xs. Fills g.S.Store (with_rows name.Hits (map hits_row xs)) two last c.insert_rows-2.result) c.as_slice-rows.ensures.value (c.insert_rows-2.ensures.fills told))
