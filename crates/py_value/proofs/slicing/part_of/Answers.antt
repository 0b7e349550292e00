use Rattle.std.proofs.lemmas.Grind.{common_steps}
use Rattle.std.proofs.Common.{◌∙◌, arith}
use Rattle.py_value.proofs.PartLaws.{plains-part}
use Rattle.py_value.proofs.slicing.part_of.Goals as goal

pub returns-in_ok-copies : goal.returns-in_ok-copies
returns-in_ok-copies c = c.in_ok-copies.ensures ∙ plains-part c.args.items.now c.args.from c.args.to c.first_bound-first.result c.last_bound-last.result c.first_bound-first.ensures c.last_bound-last.ensures

pub returns-else-first-last : goal.returns-else-first-last
returns-else-first-last c = grind (arith, common_steps)
