use Rattle.cov_cause_laws.proofs.Blameless.{only-causes, only-imports}
use Rattle.cov_cause_laws.proofs.laws.only_causes.Goals as goal

pub returns-clause-causes : goal.returns-clause-causes
returns-clause-causes c = only-causes

pub returns-clause-imports : goal.returns-clause-imports
returns-clause-imports c = only-imports
