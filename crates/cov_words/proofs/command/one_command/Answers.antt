use Rattle.cov_words.proofs.Complete.{same_command}
use Rattle.cov_words.proofs.command.one_command.Goals as goal

pub returns : goal.returns
returns c = same_command
