use Rattle.std.proofs.Common.{◌≡◌, w32, to_z, of_z, ap, ◌∙◌, arith}
use Rattle.std.proofs.lemmas.Int.{to_z-of_z}
use Rattle.std.proofs.lemmas.List.{take_all}
use Rattle.cov_analysis.specs.Branches.{open_branches}
use Rattle.cov_analysis.proofs.Branching.{open_more}
use Rattle.cov_analysis.proofs.branches.open_branches.Goals as goal

pub loop-place-preserved : goal.loop-place-preserved
loop-place-preserved c =
    let arc = c.at-from.result in
    let from : to_z w32 (of_z w32 arc.0) ≡ arc.0 = grind (arith, to_z-of_z) in
    let to : to_z w32 (of_z w32 arc.1) ≡ arc.1 = grind (arith, to_z-of_z) in
    open_more c.args.excluded.now c.args.arcs.now c.loop-place.place arc _ c.loop-place.found.items _ (λ i. (from i, to i)) c.at-from.ensures c.loop-place.invariant c.in_ok-add_open.ensures

pub returns : goal.returns
returns c = c.loop-place.invariant ∙ ap (open_branches c.args.excluded.now) (take_all c.loop-place.place c.args.arcs.now (omega arith))
