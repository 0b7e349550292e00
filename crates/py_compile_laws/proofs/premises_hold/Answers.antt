use Rattle.py_compile_laws.proofs.Law.{premises}
use Rattle.py_compile_laws.proofs.premises_hold.Goals as goal

pub returns : goal.returns
returns c = premises
