use Rattle.std.proofs.Common.{map, ap, ◌∙◌}
use Rattle.py_world.specs.Numbered.{listed, plain_global}
use Rattle.py_world.proofs.Listed.{listed_none}
use Rattle.py_world.proofs.globals.Globals.of_names.Goals as goal

pub returns : goal.returns
returns c = ap (listed (map plain_global c.args.items.items)) c.new.ensures.items ∙ listed_none (map plain_global c.args.items.items)
