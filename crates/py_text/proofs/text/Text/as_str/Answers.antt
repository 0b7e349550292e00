use Rattle.std.proofs.Common.{ap, sym, ◌∙◌}
use Rattle.std.proofs.lemmas.Str.{chars-nil}
use Rattle.py_text.specs.Texts.{shared_characters}
use Rattle.py_text.proofs.text.Text.as_str.Goals as goal

pub returns-in-None-clause-characters : goal.returns-in-None-clause-characters
returns-in-None-clause-characters c = chars-nil ∙ ap shared_characters (sym c.in-None.is) ∙ c.self.view_is
