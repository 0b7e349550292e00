use Rattle.std.proofs.Common.{◌≡◌, ◌++◌, drop, map}
use Rattle.cov_select.specs.Paths.{modules_beside, version_view}
use Rattle.cov_select.proofs.modules.versions.Given as goal

abbrev pub invariant-loop-i : goal.invariant-loop-i
invariant-loop-i l = map version_view l.found.items ++ modules_beside (drop l.i l.programs) (drop l.i l.trees) ≡ modules_beside l.programs l.trees
