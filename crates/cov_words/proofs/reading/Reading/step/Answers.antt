use Rattle.std.proofs.lemmas.Grind.{common_steps}
use Rattle.std.proofs.Common.{arith}
use Rattle.cov_words.proofs.reading.Reading.step.Goals as goal

pub returns-in-Some : goal.returns-in-Some
returns-in-Some c = grind (arith, common_steps)

pub returns-then-begins_option : goal.returns-then-begins_option
returns-then-begins_option c = grind (arith, common_steps)

pub returns-then-not-extends : goal.returns-then-not-extends
returns-then-not-extends c = grind (arith, common_steps)

pub returns : goal.returns
returns c = grind (arith, common_steps)
