use Rattle.cov_load_laws.proofs.Outcomes.{one-outcome, refused-by, one-answer}
use Rattle.cov_load_laws.proofs.one_outcome.Goals as goal

pub returns-clause-one : goal.returns-clause-one
returns-clause-one c = one-outcome c.one_text.ensures

pub returns-clause-refused : goal.returns-clause-refused
returns-clause-refused c = refused-by

pub returns-clause-one_answer : goal.returns-clause-one_answer
returns-clause-one_answer c = one-answer c.one_text.ensures
