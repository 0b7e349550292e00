use Rattle.std.proofs.Common.{None}
use Rattle.py_world.specs.Values.{plain_option}
use Rattle.py_world.proofs.Lookups.{map-slice_set}
use Rattle.py_instructions.proofs.slots.Slots.unset.Goals as goal

pub returns-then-n-len : goal.returns-then-n-len
returns-then-n-len c = map-slice_set plain_option c.args.self.now.values.items c.args.n None
