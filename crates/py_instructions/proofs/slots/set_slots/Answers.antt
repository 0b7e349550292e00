use Rattle.std.proofs.Common.{rules, map, ap, ◌∙◌}
use Rattle.std.proofs.lemmas.Grind.{common_steps}
use Rattle.std.proofs.Common.{arith}
use Rattle.py_world.specs.Values.{plain_option}
use Rattle.py_instructions.proofs.Taken.{map-reverse}
use Rattle.py_instructions.proofs.slots.set_slots.Goals as goal

pub returns : goal.returns
returns c = ap (map plain_option) c.reverse.ensures.items ∙ map-reverse plain_option c.loop-value.slots.items ∙ first_of (search rules, grind (arith, common_steps))

pub loop-value-preserved : goal.loop-value-preserved
loop-value-preserved c = grind (arith, common_steps)
