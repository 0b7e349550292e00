use Rattle.std.proofs.Common.{rules, [], ◌∷◌, ◌++◌, map, ap, sym, ◌∙◌, append_assoc, append-nil, string_bytes}
use Rattle.cov_data.specs.DataSet.{rekeyed}
use Rattle.cov_data.proofs.FilesViews.{left_at_start}
use Rattle.std.proofs.lemmas.List.{map-append}
use Rattle.cov_data.proofs.files.FileMap.paths.Goals as goal

pub loop-path-init : goal.loop-path-init
loop-path-init c =
    let given = c.into_iter-path-iterator.ensures.into_iter_gives in
    ap (λ ps. map string_bytes ps ++ map (λ e. e.0) (rekeyed string_bytes c.into_iter-path-iterator.result)) c.new-paths.ensures.items
    ∙ ap (λ es. map (λ e. e.0) es) (left_at_start _ _ _ c.self.view_is given.0 given.5)

pub loop-path-preserved : goal.loop-path-preserved
loop-path-preserved c =
    let before = map string_bytes c.loop-path.paths.items in
    let left = map (λ e. e.0) (rekeyed string_bytes c.next.new.self) in
    ap (λ ps. map string_bytes ps ++ left) c.in_ok-push.ensures.items
    ∙ ap (λ ps. ps ++ left) (map-append string_bytes c.loop-path.paths.items (c.in_ok-clone.field-0 ∷ []))
    ∙ append_assoc before (string_bytes c.in_ok-clone.field-0 ∷ []) left
    ∙ ap (λ p. before ++ (p ∷ left)) (search rules)
    ∙ ap (λ xs. before ++ map (λ e. e.0) (rekeyed string_bytes xs)) (sym c.in-Some.ensures.steps) ∙ c.loop-path.invariant

pub returns : goal.returns
returns c = record { ok = sym (append-nil _) ∙ ap (λ xs. map string_bytes c.loop-path.paths.items ++ map (λ e. e.0) (rekeyed string_bytes xs)) (sym c.in-None.ensures.steps.0) ∙ c.loop-path.invariant }
