use Rattle.std.proofs.lemmas.Grind.{common_steps}
use Rattle.std.proofs.Common.{arith}
use Rattle.py_world.proofs.links.Links.copy.Goals as goal

pub returns : goal.returns
returns c = grind (arith, common_steps)

pub loop-units-preserved : goal.loop-units-preserved
loop-units-preserved c = grind (arith, common_steps)
