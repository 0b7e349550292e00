use Rattle.std.proofs.Common.{◌≡◌, drop, map}
use Rattle.cov_recorder.specs.Names.{names_of}
use Rattle.cov_recorder.specs.Plan.{plan_with}
use Rattle.cov_recorder.specs.Rows.{row_from, with_rows}
use Rattle.cov_recorder.proofs.gather.add_rows.Given as goal

abbrev pub invariant-loop-row : goal.invariant-loop-row
invariant-loop-row l = record {
  rest :
      with_rows (plan_with (names_of l.units) l.sets l.initial.data.arcs l.fixed) (map row_from (drop l.row-index l.rows)) l.data
      ≡ with_rows (plan_with (names_of l.units) l.sets l.initial.data.arcs l.fixed) (map row_from l.rows) l.initial.data;
  kind : l.data.arcs ≡ l.initial.data.arcs;
}
