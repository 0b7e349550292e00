use Rattle.cov_analysis.proofs.Reporting.{reports_law}
use Rattle.cov_analysis.proofs.laws.reportable_files.Goals as goal

pub returns : goal.returns
returns c = reports_law
