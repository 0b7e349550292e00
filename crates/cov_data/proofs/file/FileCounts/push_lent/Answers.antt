use Rattle.std.proofs.Common.{◌++◌, map, ap, sym, ◌∙◌, refl, append_assoc, append-nil, string_bytes}
use Rattle.std.specs.FinMap.{entries}
use Rattle.std.proofs.lemmas.List.{map-append}
use Rattle.cov_data.specs.DataSet.{rekeyed}
use Rattle.cov_data.specs.Rows.{lent_view, row_of, file_rows}
use Rattle.cov_data.specs.Stored.{under, listed}
use Rattle.cov_data.proofs.FilesViews.{texts_from, left_at_start}
use Rattle.cov_data.proofs.Nested.{entries-file_with}
use Rattle.cov_data.proofs.file.FileCounts.push_lent.Goals as goal

pub loop-context-init : goal.loop-context-init
loop-context-init c =
    let given = c.into_iter-context-iterator.ensures.into_iter_gives in
    let M = texts_from c.self.inside.contexts.entries in
    let before = map lent_view c.args.rows.now.items in
    ap (λ es. before ++ map (row_of c.args.path.now) (listed es)) (left_at_start _ _ M refl given.0 given.5)
    ∙ ap (λ es. before ++ map (row_of c.args.path.now) es) (sym (entries-file_with M))
    ∙ ap (λ f. before ++ file_rows c.args.path.now f) c.self.view_is

pub loop-context-preserved : goal.loop-context-preserved
loop-context-preserved c =
    let before = map lent_view c.loop-context.rows.items in
    let row = row_of c.args.path.now in
    let left = listed (rekeyed string_bytes c.next.new.self) in
    let now = entries c.in-Some.tally.now in
    ap (λ rows. rows ++ map row left) c.in_ok-push_lent.ensures.ok
    ∙ append_assoc before (map row (under c.as_str.result.now now)) (map row left)
    ∙ ap (λ k. before ++ (map row (under k now) ++ map row left)) c.as_str.ensures.value
    ∙ ap (λ rows. before ++ rows) (sym (map-append row (under (string_bytes c.in-Some.context.now) now) left))
    ∙ ap (λ xs. before ++ map row (listed (rekeyed string_bytes xs))) (sym c.in-Some.ensures.steps) ∙ c.loop-context.invariant

pub returns : goal.returns
returns c = record { ok = sym (append-nil _) ∙ ap (λ xs. map lent_view c.loop-context.rows.items ++ map (row_of c.args.path.now) (listed (rekeyed string_bytes xs))) (sym c.in-None.ensures.steps.0) ∙ c.loop-context.invariant }
