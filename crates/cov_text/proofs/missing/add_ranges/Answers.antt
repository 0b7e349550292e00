use Rattle.std.proofs.Common.{◌+◌, ℕ, List, [], map, drop, get_or, Bor, ap, sym, ◌∙◌}
use Rattle.std.specs.List.{flat_map}
use Rattle.std.proofs.lemmas.List.{at_drop_all}
use Rattle.cov_text.specs.Missing.{Item, with_items, run_items}
use Rattle.cov_text.specs.Stored.{items_of}
use Rattle.cov_text.proofs.Items.{run_added}
use Rattle.cov_text.proofs.Lists.{drop_at}
use Rattle.cov_text.proofs.missing.add_ranges.Goals as goal

pub loop-run-preserved : goal.loop-run-preserved
loop-run-preserved c =
    let now : Bor (List ℕ) → List ℕ = λ r. r.now in
    let i = c.loop-run.run-index in
    let runs = c.deref-run-items.result.now in
    let run = get_or runs i (record { ref_ptr = (0, 0); now = [] }) in
    let items = items_of c.loop-run.items.keys in
    let here = ap (λ (xs : List (Bor (List ℕ))). with_items items (flat_map run_items (map now xs))) (drop_at runs i (record { ref_ptr = (0, 0); now = [] }) c.loop-run-test.true) in
    run_added items (items_of c.add_range.new.items.keys) _ run.now (map now (drop (i + 1) runs)) c.in_ok-add_range.ensures (sym here ∙ c.loop-run.invariant)

pub returns : goal.returns
returns c =
    let now : Bor (List ℕ) → List ℕ = λ r. r.now in
    let runs = c.deref-run-items.result.now in
    let left : List (Bor (List ℕ)) → List Item = λ xs. with_items (items_of c.loop-run.items.keys) (flat_map run_items (map now xs)) in
    sym (at_drop_all left runs c.loop-run.run-index c.loop-run-test.false)
    ∙ c.loop-run.invariant
    ∙ ap (λ (xs : List (List ℕ)). with_items (items_of c.args.items.now.keys) (flat_map run_items xs)) (ap (map now) c.deref-run-items.ensures.value ∙ c.in_ok-all.ensures)
