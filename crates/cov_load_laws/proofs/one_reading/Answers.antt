use Rattle.cov_load_laws.proofs.Readings.{one-reading, same-tree}
use Rattle.cov_load_laws.proofs.Sources.{reads-tree}
use Rattle.cov_load_laws.proofs.one_reading.Goals as goal

pub returns-clause-one : goal.returns-clause-one
returns-clause-one c = one-reading c.one_text.ensures

pub returns-clause-one_tree : goal.returns-clause-one_tree
returns-clause-one_tree c = same-tree c.one_text.ensures

pub returns-clause-tree : goal.returns-clause-tree
returns-clause-tree c = reads-tree
