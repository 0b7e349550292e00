use Rattle.std.proofs.Common.{◌≤◌, drop, length, map, min, true, refl, arith}
use Rattle.py_changes.specs.Changes.{all_fit}
use Rattle.cov_select.specs.Paths.{version_view}
use Rattle.cov_changed.proofs.SilenceLaws.{all_done}
use Rattle.cov_select.proofs.Places.{ended-both, all-fit-none}
use Rattle.cov_select.proofs.modules.all_fit.Goals as goal

pub returns : goal.returns
returns c =
    let i = c.loop-i.i in
    let ended : min (length c.args.before.now) (length c.args.after.now) ≤ i = omega (arith, c.min-i-end.ensures) in
    all_done c.loop-i.all (all_fit (map version_view (drop i c.args.before.now)) (map version_view (drop i c.args.after.now))) (all_fit (map version_view c.args.before.now) (map version_view c.args.after.now))
    (ended-both (λ us vs. all_fit (map version_view us) (map version_view vs)) true (λ vs. refl) (λ us. all-fit-none (map version_view us)) c.args.before.now c.args.after.now i ended) c.loop-i.invariant
