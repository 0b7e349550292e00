use Rattle.cov_report_tests.proofs.sources.analysed.Goals as goal

pub returns : goal.returns
returns c = c.in_ok-analysis.ensures.of_text c.in_ok-module.ensures
