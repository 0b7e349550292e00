use Rattle.py_changes.proofs.RegularTexts.{regular_texts}
use Rattle.py_changes.proofs.regular_texts.Goals as goal

pub returns : goal.returns
returns c = regular_texts
