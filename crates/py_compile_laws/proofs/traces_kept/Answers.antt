use Rattle.py_compile_laws.proofs.Law.{law}
use Rattle.py_compile_laws.proofs.traces_kept.Goals as goal

pub returns : goal.returns
returns c = law
