use Rattle.std.proofs.Common.{◌≡◌, ◌++◌, drop, map}
use Rattle.cov_select.specs.Paths.{compared_by_path, plain_change, version_view}
use Rattle.cov_select.proofs.by_path.compared_by_path.Given as goal

abbrev pub invariant-loop-i : goal.invariant-loop-i
invariant-loop-i l =
    map plain_change l.found.items ++ compared_by_path (map version_view (drop l.i l.before)) (map version_view (drop l.i l.after))
    ≡ compared_by_path (map version_view l.before) (map version_view l.after)
