use Rattle.cov_load_laws.proofs.Answers.{answers-program}
use Rattle.cov_load_laws.proofs.answers_program.Goals as goal

pub returns : goal.returns
returns c = answers-program c.one_text.ensures
