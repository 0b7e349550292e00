use Rattle.cov_headline.proofs.Taking.{law_of_origins}
use Rattle.cov_headline.proofs.laws.data_of_origins.Goals as goal

pub returns : goal.returns
returns c = law_of_origins
