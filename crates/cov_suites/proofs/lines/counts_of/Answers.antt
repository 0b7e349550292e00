use Rattle.std.proofs.Common.{◌∙◌}
use Rattle.cov_step.specs.Testing.{is_cut, is_failed, is_passed}
use Rattle.cov_suites.proofs.Writing.{counted}
use Rattle.cov_suites.proofs.lines.counts_of.Goals as goal

pub returns-clause-passed : goal.returns-clause-passed
returns-clause-passed c = c.passed_in.ensures ∙ counted is_passed c.args.tests.now

pub returns-clause-failed : goal.returns-clause-failed
returns-clause-failed c = c.failed_in.ensures ∙ counted is_failed c.args.tests.now

pub returns-clause-cut : goal.returns-clause-cut
returns-clause-cut c = c.cut_in.ensures ∙ counted is_cut c.args.tests.now
