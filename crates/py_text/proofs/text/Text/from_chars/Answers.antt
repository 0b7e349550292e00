use Rattle.std.proofs.lemmas.Grind.{common_steps}
use Rattle.std.proofs.Common.{arith}
use Rattle.py_text.proofs.text.Text.from_chars.Goals as goal

pub loop-c-preserved : goal.loop-c-preserved
loop-c-preserved c = grind (arith, common_steps)
