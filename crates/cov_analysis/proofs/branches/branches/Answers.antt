use Rattle.std.proofs.Common.{◌≡◌, subst, ◌∙◌}
use Rattle.std.specs.Prelude.{IfOk}
use Rattle.cov_analysis.specs.Branches.{forks}
use Rattle.cov_analysis.proofs.branches.branches.Goals as goal

pub returns : goal.returns
returns c = subst (λ found. IfOk c.forks.result (λ several. several.items ≡ forks found)) (c.deref.ensures.value ∙ c.in_ok-found.ensures) c.forks.ensures
