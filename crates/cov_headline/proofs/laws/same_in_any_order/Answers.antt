use Rattle.cov_headline.proofs.Missing.{law_of_order}
use Rattle.cov_headline.proofs.laws.same_in_any_order.Goals as goal

pub returns : goal.returns
returns c = law_of_order
