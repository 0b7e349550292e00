use Rattle.std.proofs.lemmas.Grind.{common_steps}
use Rattle.std.proofs.Common.{arith}
use Rattle.cov_words.proofs.reading.Reading.take.Goals as goal

pub returns-in_ok-push-in-Whole : goal.returns-in_ok-push-in-Whole
returns-in_ok-push-in-Whole c = grind (arith, common_steps)
