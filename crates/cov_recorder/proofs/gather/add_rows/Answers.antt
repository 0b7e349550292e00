use Rattle.std.proofs.Common.{◌+◌, ◌<◌, length, map, drop, refl, ap, sym, ◌∙◌, arith}
use Rattle.std.proofs.lemmas.Option.{slice_get_read}
use Rattle.cov_data.specs.DataSet.{DataSet}
use Rattle.cov_recorder.specs.Names.{names_of}
use Rattle.cov_recorder.specs.Plan.{plan_with, path_of, set_of}
use Rattle.cov_recorder.specs.Recording.{joined}
use Rattle.cov_recorder.specs.Rows.{row_from, with_rows}
use Rattle.cov_recorder.proofs.Gathering.{sound_at, rows_from, with_counts-kind}
use Rattle.cov_recorder.proofs.gather.add_rows.Goals as goal

pub add_row-requires : goal.add_row-requires
add_row-requires c =
    let within : c.loop-row.row-index < length c.args.rows.now = omega arith in
    let at = slice_get_read c.args.rows.now (length c.args.rows.now) c.loop-row.row-index c.row-item.result refl within c.row-item.is in
    sound_at (names_of c.args.units.now) c.args.sets.now c.args.data.now.arcs c.loop-row.data.arcs c.args.fixed.now c.args.rows.now c.loop-row.row-index c.row-item.result c.loop-row.invariant.kind c.requires at

pub loop-row-preserved : goal.loop-row-preserved
loop-row-preserved c =
    let within : c.loop-row.row-index < length c.args.rows.now = omega arith in
    let at = slice_get_read c.args.rows.now (length c.args.rows.now) c.loop-row.row-index c.row-item.result refl within c.row-item.is in
    let plan = plan_with (names_of c.args.units.now) c.args.sets.now c.args.data.now.arcs c.args.fixed.now in
    let row = row_from c.row-item.result in
    let is = c.in_ok-add_row.ensures in
    record {
      rest =
          ap (with_rows plan (map row_from (drop (c.loop-row.row-index + 1) c.args.rows.now))) is
          ∙ sym (rows_from plan c.args.rows.now c.loop-row.row-index c.row-item.result c.loop-row.data at)
          ∙ c.loop-row.invariant.rest;
      kind =
          ap (λ (d : DataSet). d.arcs) is
          ∙ with_counts-kind (path_of plan row.module) (joined plan.fixed row.label) (set_of plan row.module) row.counts c.loop-row.data
          ∙ c.loop-row.invariant.kind;
    }
