use Rattle.py_compile.proofs.ProgramLaw.{programs_run}
use Rattle.py_compile.proofs.programs_run.Goals as goal

pub returns : goal.returns
returns c = programs_run
