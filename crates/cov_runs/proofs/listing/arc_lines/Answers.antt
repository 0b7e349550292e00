use Rattle.std.proofs.Common.{◌≡◌, ◌∙◌, arith, pos, w32, to_z, of_z, add-one, get_or, string_bytes}
use Rattle.std.proofs.lemmas.Int.{to_z-of_z}
use Rattle.cov_runs.proofs.Lines.{lines-on, lines-end}
use Rattle.cov_runs.proofs.listing.arc_lines.Goals as goal

pub loop-arc-preserved : goal.loop-arc-preserved
loop-arc-preserved c =
    let from : to_z w32 (of_z w32 (get_or c.args.arcs.now c.loop-arc.arc-index (pos 0, pos 0)).0) ≡ (get_or c.args.arcs.now c.loop-arc.arc-index (pos 0, pos 0)).0 = grind (arith, to_z-of_z) in
    let to : to_z w32 (of_z w32 (get_or c.args.arcs.now c.loop-arc.arc-index (pos 0, pos 0)).1) ≡ (get_or c.args.arcs.now c.loop-arc.arc-index (pos 0, pos 0)).1 = grind (arith, to_z-of_z) in
    rw (add-one c.loop-arc.arc-index)
    (lines-on c.args.path.now _ _ _ c.args.arcs.now c.loop-arc.arc-index (pos 0, pos 0) _ _ c.loop-arc-test.true from to (c.as_str.ensures.value ∙ c.in_ok-line.ensures) c.in_ok-push_str.ensures.bytes c.loop-arc.invariant)

pub returns : goal.returns
returns c = lines-end c.args.path.now c.args.arcs.now c.loop-arc.arc-index (string_bytes c.loop-arc.text) c.loop-arc-test.false c.loop-arc.invariant
