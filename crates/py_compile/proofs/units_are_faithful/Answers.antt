use Rattle.py_compile.proofs.Standing.{units_faithful}
use Rattle.py_compile.proofs.units_are_faithful.Goals as goal

pub returns : goal.returns
returns c = units_faithful
