use Rattle.std.proofs.Common.{rules, ◌≡◌, [], ◌∷◌, Ok, Err, sym, subst, map, take, w64}
use mir.Val.{SFits}
use Rattle.std.proofs.Math.Facts.{to_z-of_z}
use Rattle.std.proofs.lemmas.List.{take_all}
use Rattle.sqlite_value.specs.declared.value.Value.TheVariants.{Int, Blob}
use Rattle.cov_sql.specs.declared.tables.Table.TheVariants as name
use Rattle.cov_sql.specs.ByName.{shape_of, declared_as}
use Rattle.cov_sql.specs.Written.{Inserts}
use Rattle.sqlite.specs.Held.{state}
use Rattle.cov_sql.specs.Holding.{with_rows, Fills}
use Rattle.cov_sql.specs.SavedRows.{bits_row}
use Rattle.cov_sql.proofs.Stepping.{works_none, works_one, works_on, works_end}
use Rattle.cov_sql.proofs.Filling.{no_fill, fills_none, fills_more, map_at}
use Rattle.cov_sql.proofs.WrittenTexts.{of_insert_line_bits}
use Rattle.cov_sql.proofs.inserting.insert_bits.Goals as goal

pub returns-in_err-insert_line_bits-clause-steps : goal.returns-in_err-insert_line_bits-clause-steps
returns-in_err-insert_line_bits-clause-steps g c =
    let is : c.from_residual.result ≡ Err c.in_err-insert_line_bits.field-0.0 = search rules in
    works_end (works_on c.loop-set.invariant.steps (works_one of_insert_line_bits c.in_err-insert_line_bits.ensures.works c.in_err-insert_line_bits.ensures.goes_on c.insert_line_bits.ensures.same_reference)) is

pub returns-in_err-insert_line_bits-clause-fills : goal.returns-in_err-insert_line_bits-clause-fills
returns-in_err-insert_line_bits-clause-fills g c tells =
    let is : c.from_residual.result ≡ Err c.in_err-insert_line_bits.field-0.0 = search rules in
    no_fill g.S.Store (with_rows name.LineBits (map bits_row c.args.bits.now)) c.args.work.now.conn.now c.insert_line_bits.new.work.conn.now _ _ is

pub returns-clause-fills : goal.returns-clause-fills
returns-clause-fills g c tells =
    subst (λ rows. Fills g.S.Store (with_rows name.LineBits (map bits_row rows)) c.args.work.now.conn.now c.loop-set.work.conn.now (Ok tt)) (take_all c.loop-set.set-index c.args.bits.now c.loop-set-test.false) (c.loop-set.invariant.fills tells)

pub loop-set-init : goal.loop-set-init
loop-set-init g c = record {
  steps = works_none _ _;
  fills = λ tells. fills_none g.S.Store name.LineBits c.args.work.now.conn.now;
}

pub loop-set-preserved : goal.loop-set-preserved
loop-set-preserved g c =
    let before = c.loop-set.invariant in
    let now = c.loop-set.work in
    let next = c.insert_line_bits.new.work in
    let all = c.args.bits.now in
    let i = c.loop-set.set-index in
    let it = c.set-item.result in
    let file_id_fits : SFits w64 it.file_id = search rules in
    let context_id_fits : SFits w64 it.context_id = search rules in
    let step = works_one {a = now} {b = next} of_insert_line_bits c.in_ok-insert_line_bits.ensures.works c.in_ok-insert_line_bits.ensures.goes_on c.insert_line_bits.ensures.same_reference in
    record {
      steps = works_on before.steps step;
      fills = λ tells.
          subst (λ rows. Fills g.S.Store (with_rows name.LineBits rows) c.args.work.now.conn.now next.conn.now (Ok tt)) (sym (map_at bits_row all i it c.loop-set-test.true c.set-item.is))
          (fills_more name.LineBits (map bits_row (take i all)) (bits_row it) before.steps step before.fills
          (λ told. subst (λ r. Inserts (shape_of name.LineBits) (declared_as name.LineBits) r (state g.S.Store now.conn.now) (state g.S.Store next.conn.now) (Ok tt)) (λ k. Int (to_z-of_z file_id_fits k) ∷ Int (to_z-of_z context_id_fits k) ∷ Blob (c.deref.ensures.value k) ∷ []) (c.in_ok-insert_line_bits.ensures.works told).told) tells);
    }
