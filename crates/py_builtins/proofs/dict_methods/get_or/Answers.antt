use Rattle.std.proofs.lemmas.Grind.{common_steps}
use Rattle.std.proofs.Common.{arith}
use Rattle.py_builtins.proofs.dict_methods.get_or.Goals as goal

pub returns-in_ok-copy-in-Some : goal.returns-in_ok-copy-in-Some
returns-in_ok-copy-in-Some c = grind (arith, common_steps)

pub returns-in_ok-copy-in-None : goal.returns-in_ok-copy-in-None
returns-in_ok-copy-in-None c = grind (arith, common_steps)
