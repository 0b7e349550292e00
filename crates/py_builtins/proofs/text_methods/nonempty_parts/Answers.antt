use Rattle.std.proofs.Common.{arith, rules}
use Rattle.std.proofs.lemmas.Grind.{common_steps}
use Rattle.py_builtins.proofs.text_methods.nonempty_parts.Goals as goal

pub loop-c-preserved : goal.loop-c-preserved
loop-c-preserved c = first_of (grind (arith, common_steps), search rules)

pub returns : goal.returns
returns c = first_of (grind (arith, common_steps), search rules)
