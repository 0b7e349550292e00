use Rattle.std.proofs.Common.{◌≡◌, map, ap, sym, ◌∙◌}
use Rattle.std.specs.Option.{unwrap_or, option_copied}
use Rattle.cov_data.specs.DataSet.{file_of, no_rows}
use Rattle.cov_data.specs.Rows.{row_view, file_rows}
use Rattle.cov_data.proofs.RowLists.{file_rows-none}
use Rattle.cov_data.proofs.dataset.Data.path_rows.Goals as goal

pub returns-in-None : goal.returns-in-None
returns-in-None c =
    let absent : file_of c.args.self.now c.args.path.now ≡ no_rows = ap (λ d. file_of d c.args.path.now) (sym c.self.view_is) ∙ ap (λ o. unwrap_or o no_rows) (sym c.get.ensures ∙ ap option_copied c.in-None.is) in
    ap (map row_view) c.new.ensures.items ∙ sym (ap (file_rows c.args.path.now) absent ∙ file_rows-none c.args.path.now)
