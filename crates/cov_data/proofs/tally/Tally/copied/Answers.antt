use Rattle.std.proofs.Common.{◌∙◌, rules}
use Rattle.cov_data.proofs.CountViews.{counts_from-alike}
use Rattle.cov_data.proofs.tally.Tally.copied.Goals as goal

pub returns : goal.returns
returns c = counts_from-alike (λ k l h. search (rules, h)) (λ m n h. search (rules, h)) _ _ c.in_ok-clone.ensures.cases ∙ c.self.view_is
