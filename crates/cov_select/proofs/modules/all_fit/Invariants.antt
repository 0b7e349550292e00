use Rattle.std.proofs.Common.{◌≡◌, ◌&&◌, drop, map}
use Rattle.py_changes.specs.Changes.{all_fit}
use Rattle.cov_select.specs.Paths.{version_view}
use Rattle.cov_select.proofs.modules.all_fit.Given as goal

abbrev pub invariant-loop-i : goal.invariant-loop-i
invariant-loop-i l =
    (l.all && all_fit (map version_view (drop l.i l.before)) (map version_view (drop l.i l.after))) ≡ all_fit (map version_view l.before) (map version_view l.after)
