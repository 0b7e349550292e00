use Rattle.py_line_laws.proofs.OwnLaw.{law}
use Rattle.py_line_laws.proofs.own_lines.Goals as goal

pub returns : goal.returns
returns c = law
