use Rattle.std.proofs.Common.{◌∙◌}
use Rattle.py_world.proofs.Spelled.{same_characters}
use Rattle.py_world.proofs.texts.is_text.Goals as goal

pub returns : goal.returns
returns c = c.eq.ensures ∙ same_characters c.args.text.now c.as_str.result.now c.args.characters.now c.as_str.ensures.bytes c.as_str.ensures.characters c.utf8.characters
