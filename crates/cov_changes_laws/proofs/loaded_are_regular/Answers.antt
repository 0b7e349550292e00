use Rattle.cov_changes_laws.proofs.Law.{loaded_law}
use Rattle.cov_changes_laws.proofs.loaded_are_regular.Goals as goal

pub returns : goal.returns
returns g c = loaded_law c.regular_texts.ensures c.lines_of_texts.ensures _
