use Rattle.std.proofs.Common.{◌≡◌, ap, sym, ◌∙◌}
use Rattle.std.specs.Option.{unwrap_or, option_copied}
use Rattle.std.specs.Ordering.{nat_cmp}
use Rattle.std.specs.List.{flat_map}
use Rattle.cov_data.specs.DataSet.{file_of, no_rows, place_cmp}
use Rattle.cov_data.specs.Rows.{file_lines, place_lines, distinct_in_order}
use Rattle.cov_data.proofs.RowLists.{entries-empty}
use Rattle.cov_data.proofs.dataset.Data.lines.Goals as goal

pub returns-in-None : goal.returns-in-None
returns-in-None c =
    let absent : file_of c.args.self.now c.args.path.now ≡ no_rows = ap (λ d. file_of d c.args.path.now) (sym c.self.view_is) ∙ ap (λ o. unwrap_or o no_rows) (sym c.get.ensures ∙ ap option_copied c.in-None.is) in
    c.new.ensures.items ∙ sym (ap file_lines absent ∙ ap (λ es. distinct_in_order nat_cmp (flat_map (λ e. place_lines e.0) es)) (entries-empty place_cmp))
