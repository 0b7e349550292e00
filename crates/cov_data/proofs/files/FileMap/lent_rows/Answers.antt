use Rattle.std.proofs.Common.{◌++◌, map, ap, sym, ◌∙◌, List, append_assoc, append-nil, string_bytes}
use Rattle.std.specs.List.{flat_map}
use Rattle.cov_data.specs.DataSet.{Text, File, rekeyed}
use Rattle.cov_data.specs.Rows.{RowView, lent_view, file_rows}
use Rattle.cov_data.proofs.FilesViews.{left_at_start}
use Rattle.cov_data.proofs.files.FileMap.lent_rows.Goals as goal

abbrev rows_in : Text × File → List RowView
rows_in e = file_rows e.0 e.1

pub loop-path-init : goal.loop-path-init
loop-path-init c =
    let given = c.into_iter-path-iterator.ensures.into_iter_gives in
    ap (λ rows. map lent_view rows ++ flat_map rows_in (rekeyed string_bytes c.into_iter-path-iterator.result)) c.new-rows.ensures.items
    ∙ ap (flat_map rows_in) (left_at_start _ _ _ c.self.view_is given.0 given.5)

pub loop-path-preserved : goal.loop-path-preserved
loop-path-preserved c =
    let before = map lent_view c.loop-path.rows.items in
    let left = flat_map rows_in (rekeyed string_bytes c.next.new.self) in
    ap (λ rows. rows ++ left) c.in_ok-push_lent.ensures.ok
    ∙ append_assoc before (file_rows c.as_str.result.now c.in-Some.file.now) left
    ∙ ap (λ p. before ++ (file_rows p c.in-Some.file.now ++ left)) c.as_str.ensures.value
    ∙ ap (λ xs. before ++ flat_map rows_in (rekeyed string_bytes xs)) (sym c.in-Some.ensures.steps) ∙ c.loop-path.invariant

pub returns : goal.returns
returns c = record { ok = sym (append-nil _) ∙ ap (λ xs. map lent_view c.loop-path.rows.items ++ flat_map rows_in (rekeyed string_bytes xs)) (sym c.in-None.ensures.steps.0) ∙ c.loop-path.invariant }
