use Rattle.cov_made.proofs.Telling.{percent-so}
use Rattle.cov_made.proofs.lines.branches_text.Goals as goal

pub returns : goal.returns
returns c =
    percent-so c.format.result c.args.numbers.now c.percent-percent.ensures.is c.format.ensures.ok
