use Rattle.std.proofs.Common.{◌≡◌, [], ap, sym, subst, ◌∙◌, refl, IfOk, string_bytes}
use Rattle.std.specs.List.{fold, flat_map}
use Rattle.std.specs.Ordering.{nat_cmp}
use Rattle.std.specs.BTreeSet.{insert_key}
use Rattle.cov_data.specs.DataSet.{rekeyed}
use Rattle.cov_data.specs.Rows.{place_lines, file_lines}
use Rattle.cov_data.specs.Stored.{listed}
use Rattle.cov_data.proofs.FilesViews.{texts_from, left_at_start}
use Rattle.cov_data.proofs.Nested.{entries-file_with, lines-step}
use Rattle.cov_data.proofs.file.FileCounts.lines.Goals as goal

pub loop-context-init : goal.loop-context-init
loop-context-init c =
    let given = c.into_iter-context-iterator.ensures.into_iter_gives in
    let M = texts_from c.self.inside.contexts.entries in
    ap (λ ks. fold (insert_key nat_cmp) ks (flat_map (λ e. place_lines e.0) (listed (rekeyed string_bytes c.into_iter-context-iterator.result)))) c.new-lines.ensures.empty
    ∙ ap (λ es. fold (insert_key nat_cmp) [] (flat_map (λ e. place_lines e.0) (listed es))) (left_at_start _ _ M refl given.0 given.5)
    ∙ ap (λ es. fold (insert_key nat_cmp) [] (flat_map (λ e. place_lines e.0) es)) (sym (entries-file_with M))
    ∙ ap file_lines c.self.view_is

pub loop-context-preserved : goal.loop-context-preserved
loop-context-preserved c =
    let left = rekeyed string_bytes c.next.new.self in
    ap (λ ks. fold (insert_key nat_cmp) ks (flat_map (λ e. place_lines e.0) (listed left))) c.in_ok-add_lines.ensures.ok
    ∙ lines-step c.loop-context.lines.keys _ c.in-Some.tally.now left
    ∙ ap (λ xs. fold (insert_key nat_cmp) c.loop-context.lines.keys (flat_map (λ e. place_lines e.0) (listed (rekeyed string_bytes xs)))) (sym c.in-Some.ensures.steps) ∙ c.loop-context.invariant

pub returns : goal.returns
returns c =
    let all = ap (λ xs. fold (insert_key nat_cmp) c.loop-context.lines.keys (flat_map (λ e. place_lines e.0) (listed (rekeyed string_bytes xs)))) (sym c.in-None.ensures.steps.0) ∙ c.loop-context.invariant in
    record { ok = subst (λ ks. IfOk c.listed_lines.result (λ v. v.items ≡ ks)) all c.listed_lines.ensures }
