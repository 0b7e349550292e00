use Rattle.std.proofs.Common.{map, sym, ap, subst, ◌∙◌}
use Rattle.cov_data.specs.Rows.{row_view}
use Rattle.cov_exclude.specs.Touched.{IsRising}
use Rattle.cov_analysis.proofs.Rising.{lines_of-rises}
use Rattle.cov_analysis.proofs.Telling.{told}
use Rattle.cov_analysis.specs.Lookups.{count_in, is_counted, branch_count_in}
use Rattle.cov_analysis.specs.Hits.{line_count, is_taken, branch_count}
use Rattle.cov_analysis.proofs.taken.taken_of.Goals as goal

pub returns : goal.returns
returns c = record {
  taken =
      told c.is_arcs-arcs.result c.in_ok-executed.executed.items (count_in c.in_ok-lines.lines) (is_counted c.in_ok-branches.branches) (branch_count_in c.in_ok-branches.branches) c.args.recorded.now c.args.path.now
      (map row_view c.in_ok-rows.rows.items) c.is_arcs-arcs.ensures.flag c.in_ok-executed.ensures c.in_ok-rows.ensures
      (λ line. c.in_ok-lines.ensures line ∙ ap (λ rows. line_count (map row_view rows) line) c.deref.ensures.value)
      (λ branch. c.in_ok-branches.ensures.taken branch ∙ ap (λ rows. is_taken (map row_view rows) branch) c.deref-2.ensures.value)
      (λ branch. c.in_ok-branches.ensures.count branch ∙ ap (λ rows. branch_count (map row_view rows) branch) c.deref-2.ensures.value);
  rises = subst IsRising (sym c.in_ok-executed.ensures) (lines_of-rises c.args.recorded.now c.args.path.now);
}
