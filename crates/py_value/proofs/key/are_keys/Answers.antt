use Rattle.std.proofs.Common.{arith}
use Rattle.std.proofs.lemmas.Grind.{common_steps}
use Rattle.py_value.proofs.key.are_keys.Goals as goal

pub loop-value-preserved : goal.loop-value-preserved
loop-value-preserved c = grind (arith, common_steps)

pub returns-then-not-is_key : goal.returns-then-not-is_key
returns-then-not-is_key c = grind (arith, common_steps)

pub returns : goal.returns
returns c = grind (arith, common_steps)
