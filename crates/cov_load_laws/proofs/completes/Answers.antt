use Rattle.cov_load_laws.proofs.Completing.{completes, is-needed}
use Rattle.cov_load_laws.proofs.completes.Goals as goal

pub returns-clause-completes : goal.returns-clause-completes
returns-clause-completes c = completes c.one_text.ensures

pub returns-clause-needed : goal.returns-clause-needed
returns-clause-needed c = is-needed c.one_text.ensures
