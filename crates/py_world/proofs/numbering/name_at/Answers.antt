use Rattle.std.proofs.Common.{sym, ◌∙◌}
use Rattle.py_text.proofs.SameTexts.{same_text}
use Rattle.py_world.proofs.numbering.name_at.Goals as goal

pub returns : goal.returns
returns c = sym (same_text c.args.name.now c.in-Some.global.now.name (sym c.is_same.ensures ∙ c.if-not-is_same.false))
