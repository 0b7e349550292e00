use Rattle.cov_data.proofs.ArcLists.{law_of_lines}
use Rattle.cov_data.proofs.laws.lines_of_arcs.Goals as goal

pub returns : goal.returns
returns c = law_of_lines
