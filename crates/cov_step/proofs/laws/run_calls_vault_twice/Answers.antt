use Rattle.cov_step.proofs.Twice.{law_of_two}
use Rattle.cov_step.proofs.laws.run_calls_vault_twice.Goals as goal

pub returns : goal.returns
returns c = law_of_two
