use Rattle.std.proofs.Common.{◌≡◌, ◌&&◌, drop, length, map}
use Rattle.py_changes.specs.Changes.{same_modules}
use Rattle.cov_select.specs.Paths.{version_view}
use Rattle.cov_select.proofs.modules.same_modules.Given as goal

abbrev pub invariant-loop-i : goal.invariant-loop-i
invariant-loop-i l =
    (length l.before ≡ length l.after)
    × ((l.all && same_modules (map version_view (drop l.i l.before)) (map version_view (drop l.i l.after))) ≡ same_modules (map version_view l.before) (map version_view l.after))
