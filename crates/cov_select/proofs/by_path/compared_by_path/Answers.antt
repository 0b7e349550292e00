use Rattle.std.proofs.Common.{◌≤◌, [], drop, length, map, min, refl, arith}
use Rattle.cov_select.specs.Paths.{compared_by_path, plain_change, version_view}
use Rattle.cov_select.proofs.Places.{ended-both, made-all, none-compared}
use Rattle.cov_select.proofs.by_path.compared_by_path.Goals as goal

pub returns : goal.returns
returns c =
    let i = c.loop-i.i in
    let ended : min (length c.args.before.now) (length c.args.after.now) ≤ i = omega (arith, c.min-i-end.ensures) in
    made-all (map plain_change c.loop-i.found.items) (compared_by_path (map version_view (drop i c.args.before.now)) (map version_view (drop i c.args.after.now))) (compared_by_path (map version_view c.args.before.now) (map version_view c.args.after.now))
    (ended-both (λ us vs. compared_by_path (map version_view us) (map version_view vs)) [] (λ vs. refl) (λ us. none-compared (map version_view us)) c.args.before.now c.args.after.now i ended) c.loop-i.invariant
