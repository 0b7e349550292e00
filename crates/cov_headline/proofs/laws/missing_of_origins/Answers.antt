use Rattle.cov_headline.proofs.Missing.{law_of_reports}
use Rattle.cov_headline.proofs.laws.missing_of_origins.Goals as goal

pub returns : goal.returns
returns c = law_of_reports
