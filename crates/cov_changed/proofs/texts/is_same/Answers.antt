use Rattle.py_text.proofs.SameTexts.{text_test}
use Rattle.cov_changed.proofs.texts.is_same.Goals as goal

pub returns : goal.returns
returns c = text_test c.is_same.result c.args.a.now c.args.b.now c.is_same.ensures
