use Rattle.std.proofs.Common.{◌≤◌, ap₂, ◌∙◌, arith}
use Rattle.cov_analysis.specs.Counts.{covered_of, all_of}
use Rattle.cov_analysis.specs.Percentage.{percentage}
use Rattle.cov_analysis.proofs.Percentages.{percentage_is}
use Rattle.cov_analysis.proofs.numbers.Numbers.percent.Goals as goal

pub returns-clause-is : goal.returns-clause-is
returns-clause-is c =
    let within : covered_of c.args.self.now ≤ all_of c.args.self.now = omega arith in
    let covered : c.covered.result ≤ c.all.result = omega (arith, within, c.covered.ensures, c.all.ensures) in
    percentage_is c.covered.result c.all.result c.percent_of.result covered c.percent_of.ensures ∙ ap₂ percentage c.covered.ensures c.all.ensures
