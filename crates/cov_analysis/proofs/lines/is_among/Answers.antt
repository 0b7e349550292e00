use Rattle.std.proofs.Common.{◌∙◌}
use Rattle.cov_analysis.proofs.Searching.{found}
use Rattle.cov_analysis.proofs.lines.is_among.Goals as goal

pub returns : goal.returns
returns c = c.is_ok.ensures.value ∙ found c.args.lines.now c.args.line c.binary_search.result c.requires c.binary_search.ensures.position
