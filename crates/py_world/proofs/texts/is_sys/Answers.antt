use Rattle.std.proofs.Common.{ap, ◌∙◌}
use Rattle.py_text.specs.Comparison.{is_same_text}
use Rattle.py_world.proofs.Spelled.{spelled_sys}
use Rattle.py_world.proofs.texts.is_sys.Goals as goal

pub returns : goal.returns
returns c = c.is_text.ensures ∙ ap (is_same_text c.args.text.now) spelled_sys
