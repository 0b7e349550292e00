use Rattle.std.proofs.lemmas.Grind.{common_steps}
use Rattle.std.proofs.Common.{arith}
use Rattle.py_builtins.proofs.text_methods.fit_after.Goals as goal

pub returns : goal.returns
returns c = grind (arith, common_steps)

pub returns-then-count-total : goal.returns-then-count-total
returns-then-count-total c = grind (arith, common_steps)

pub returns-then-between-total : goal.returns-then-between-total
returns-then-between-total c = grind (arith, common_steps)

pub loop-item-preserved : goal.loop-item-preserved
loop-item-preserved c = grind (arith, common_steps)
