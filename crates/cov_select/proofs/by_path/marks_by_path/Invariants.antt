use Rattle.std.proofs.Common.{◌≡◌, ◌++◌, drop, map}
use Rattle.cov_select.specs.Paths.{marks_by_path, plain_change, version_view}
use Rattle.cov_select.proofs.by_path.marks_by_path.Given as goal

abbrev pub invariant-loop-version : goal.invariant-loop-version
invariant-loop-version l =
    map plain_change l.found.items ++ marks_by_path (map version_view (drop l.version-index l.before)) ≡ marks_by_path (map version_view l.before)
