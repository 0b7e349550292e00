use Rattle.std.proofs.Common.{◌≡◌, ◌∙◌, ap, get_or, map, string_bytes, rules, add-one}
use Rattle.std.specs.List.{flat_map}
use Rattle.cov_data.specs.Rows.{arcs_of}
use Rattle.cov_step.specs.Listing.{arc_lines}
use Rattle.cov_runs.proofs.Lines.{lines_of, listing-step, listing-end}
use Rattle.cov_runs.proofs.listing.listing.Goals as goal

pub loop-path-preserved : goal.loop-path-preserved
loop-path-preserved c =
    let i = c.loop-path.path-index in
    let rows = c.args.rows.now in
    let item : c.path-item.result ≡ get_or c.deref-path-items.result.now i c.path-item.result = search (rules, c.path-item.is) in
    let lines : c.as_str-in-loop-path-2.result.now ≡ lines_of rows (string_bytes c.path-item.result) =
    c.as_str-in-loop-path-2.ensures.value ∙ c.in_ok-lines.ensures ∙ ap (λ p. arc_lines p c.deref.result.now) c.as_str-in-loop-path.ensures.value
    ∙ ap (arc_lines (string_bytes c.path-item.result)) (c.deref.ensures.value ∙ c.in_ok-arcs.ensures ∙ ap (arcs_of rows) c.as_str.ensures.value) in
    rw (add-one i)
    (listing-step rows c.deref-path-items.result.now i c.path-item.result _ _ _ c.loop-path-test.true item lines c.in_ok-push_str.ensures.bytes c.loop-path.invariant)

pub returns : goal.returns
returns c =
    let rows = c.args.rows.now in
    listing-end rows c.deref-path-items.result.now c.loop-path.path-index (string_bytes c.loop-path.text) c.loop-path-test.false c.loop-path.invariant
    ∙ ap (flat_map (lines_of rows)) (ap (map string_bytes) c.deref-path-items.ensures.value ∙ c.in_ok-paths.ensures)
