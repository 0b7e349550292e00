use Rattle.cov_step.specs.Calls.{passed}
use Rattle.cov_suites.proofs.Writing.{line-is, text-is}
use Rattle.cov_suites.proofs.lines.passed_line.Goals as goal

pub returns : goal.returns
returns c = text-is c.format.result _ _ c.format.ensures.ok (line-is c.args.name.now passed c.utf8.name)
