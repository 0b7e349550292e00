use Rattle.py_text.proofs.SameTexts.{text_test}
use Rattle.py_world.proofs.name.is_same.Goals as goal

pub returns : goal.returns
returns c = rw (← c.name.view_is) (text_test c.is_same.result c.args.text.now c.name.inside.text c.is_same.ensures)
