use Rattle.std.proofs.Common.{map, ◌∙◌}
use Rattle.py_builtins.specs.Predefined.{kinds, kind_pair}
use Rattle.py_world.proofs.known_names.find_known.Goals as goal

pub returns-in-Some-kind_among : goal.returns-in-Some-kind_among
returns-in-Some-kind_among c = c.in-None.ensures (map kind_pair kinds) ∙ c.in-Some-kind_among.ensures

pub returns-in-None-kind_among : goal.returns-in-None-kind_among
returns-in-None-kind_among c = c.in-None.ensures (map kind_pair kinds) ∙ c.in-None-kind_among.ensures
