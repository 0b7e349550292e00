use Rattle.std.proofs.Common.{◌≤◌, [], drop, length, map, min, refl, arith}
use Rattle.cov_select.specs.Paths.{modules_beside, version_view}
use Rattle.cov_select.proofs.Places.{ended-both, made-all, none-beside}
use Rattle.cov_select.proofs.modules.versions.Goals as goal

pub returns : goal.returns
returns c =
    let i = c.loop-i.i in
    let ended : min (length c.args.programs.now) (length c.args.trees.now) ≤ i = omega (arith, c.min-i-end.ensures) in
    made-all (map version_view c.loop-i.found.items) (modules_beside (drop i c.args.programs.now) (drop i c.args.trees.now)) (modules_beside c.args.programs.now c.args.trees.now)
    (ended-both modules_beside [] (λ ts. refl) none-beside c.args.programs.now c.args.trees.now i ended) c.loop-i.invariant
