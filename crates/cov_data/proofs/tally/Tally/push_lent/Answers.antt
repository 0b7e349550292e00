use Rattle.std.proofs.Common.{[], ◌∷◌, ◌++◌, map, ap, sym, ◌∙◌, append_assoc, append-nil, List, ℕ, ℤ}
use Rattle.cov_data.specs.DataSet.{rekeyed}
use Rattle.cov_data.specs.Rows.{RowView, lent_view, row_of}
use Rattle.cov_data.specs.Stored.{under}
use Rattle.std.proofs.lemmas.List.{map-append}
use Rattle.cov_data.proofs.CountViews.{left_at_start}
use Rattle.cov_data.proofs.tally.Tally.push_lent.Goals as goal

pub loop-numbers-init : goal.loop-numbers-init
loop-numbers-init c =
    let given = c.into_iter-numbers-iterator.ensures.into_iter_gives in
    ap (λ es. map lent_view c.args.rows.now.items ++ map (row_of c.args.path.now) (under c.args.context.now es)) (left_at_start _ _ _ c.self.view_is given.0 given.5)

pub loop-numbers-preserved : goal.loop-numbers-preserved
loop-numbers-preserved c =
    let before = map lent_view c.loop-numbers.rows.items in
    let rows_in : List ((ℤ × ℤ) × ℕ) → List RowView = λ es. map (row_of c.args.path.now) (under c.args.context.now es) in
    let left = rows_in (rekeyed (λ k. k) c.next.new.self) in
    ap (λ rows. map lent_view rows ++ left) c.in_ok-push.ensures.items
    ∙ ap (λ rows. rows ++ left) (map-append lent_view c.loop-numbers.rows.items (c.lent_at.result ∷ []))
    ∙ append_assoc before (lent_view c.lent_at.result ∷ []) left
    ∙ ap (λ row. before ++ (row ∷ left)) c.lent_at.ensures
    ∙ ap (λ xs. before ++ rows_in (rekeyed (λ k. k) xs)) (sym c.in-Some.ensures.steps) ∙ c.loop-numbers.invariant

pub returns : goal.returns
returns c = record { ok = sym (append-nil _) ∙ ap (λ xs. map lent_view c.loop-numbers.rows.items ++ map (row_of c.args.path.now) (under c.args.context.now (rekeyed (λ k. k) xs))) (sym c.in-None.ensures.steps.0) ∙ c.loop-numbers.invariant }
