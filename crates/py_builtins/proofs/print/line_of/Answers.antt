use Rattle.std.proofs.Common.{arith, rules}
use Rattle.std.proofs.lemmas.Grind.{common_steps}
use Rattle.py_builtins.proofs.print.line_of.Goals as goal

pub loop-i-preserved : goal.loop-i-preserved
loop-i-preserved c = first_of (grind (arith, common_steps), search rules)

pub returns-in-Err : goal.returns-in-Err
returns-in-Err c = first_of (grind (arith, common_steps), search rules)

pub returns : goal.returns
returns c = first_of (grind (arith, common_steps), search rules)
