use Rattle.py_line_laws.proofs.Laws.{lines_law}
use Rattle.py_line_laws.proofs.lines_of_texts.Goals as goal

pub returns : goal.returns
returns c = lines_law
