use Rattle.std.proofs.Common.{arith}
use Rattle.std.proofs.lemmas.Grind.{common_steps}
use Rattle.py_value.proofs.sequences.extend_text.Goals as goal

pub returns-in_ok-append-clause-answer : goal.returns-in_ok-append-clause-answer
returns-in_ok-append-clause-answer c = grind (arith, common_steps)

pub returns-else-fit_together-clause-answer : goal.returns-else-fit_together-clause-answer
returns-else-fit_together-clause-answer c = grind (arith, common_steps)
