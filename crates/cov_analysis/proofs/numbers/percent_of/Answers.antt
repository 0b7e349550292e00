use Rattle.cov_analysis.specs.Percent.{of_nothing}
use Rattle.cov_analysis.proofs.Rounding.{least_is_percent, most_is_percent, other_is_percent}
use Rattle.cov_analysis.proofs.numbers.percent_of.Goals as goal

pub returns-then-all-eq0 : goal.returns-then-all-eq0
returns-then-all-eq0 c = of_nothing c.if-all-eq0.true

pub returns-then-rounded-eq0 : goal.returns-then-rounded-eq0
returns-then-rounded-eq0 c = least_is_percent c.args.covered c.args.all c.at_least.result c.nearest-rounded.result c.if-all-eq0.false c.if-rounded-eq0.true c.nearest-rounded.ensures.nearest c.at_least.ensures

pub returns-then-rounded-eq100 : goal.returns-then-rounded-eq100
returns-then-rounded-eq100 c = most_is_percent c.args.covered c.args.all c.at_most.result c.nearest-rounded.result c.if-all-eq0.false c.if-rounded-eq100.true c.nearest-rounded.ensures.nearest c.at_most.ensures

pub returns : goal.returns
returns c = other_is_percent c.args.covered c.args.all c.nearest-rounded.result c.if-all-eq0.false c.if-rounded-eq0.false c.if-rounded-eq100.false c.nearest-rounded.ensures.nearest
