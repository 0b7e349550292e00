use Rattle.cov_suites.proofs.TestCalls.{all-tested}
use Rattle.cov_suites.proofs.testing.ran.Goals as goal

pub returns-in-Ok : goal.returns-in-Ok
returns-in-Ok c = all-tested c.args.file.now c.args.answer c.in-Ok.run' c.in-Ok.is
