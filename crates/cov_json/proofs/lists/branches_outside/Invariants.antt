use Rattle.std.proofs.Common.{◌≡◌, take, not}
use Rattle.std.specs.Prelude.{filter}
use Rattle.std.specs.BTreeSet.{contains}
use Rattle.cov_analysis.specs.Branches.{branch_cmp}
use Rattle.cov_json.proofs.lists.branches_outside.Given as goal

abbrev pub invariant-loop-one : goal.invariant-loop-one
invariant-loop-one l = l.kept.items ≡ filter (λ one. not (contains branch_cmp l.set one)) (take l.one-index l.all)
