use Rattle.std.proofs.Common.{arith}
use Rattle.std.proofs.lemmas.Grind.{common_steps}
use Rattle.py_value.proofs.sequences.join_texts.Goals as goal

pub returns-in_ok-concat : goal.returns-in_ok-concat
returns-in_ok-concat c = grind (arith, common_steps)

pub returns-else-fit_together : goal.returns-else-fit_together
returns-else-fit_together c = grind (arith, common_steps)
