use Rattle.py_meaning.proofs.Uncut.{uncut_law}
use Rattle.py_meaning.proofs.cut_by_steps.Goals as goal

pub returns : goal.returns
returns c = uncut_law
