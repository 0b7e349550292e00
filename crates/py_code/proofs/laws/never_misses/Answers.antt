use Rattle.py_code.proofs.Codes.{never_misses}
use Rattle.py_code.proofs.laws.never_misses.Goals as goal

pub returns : goal.returns
returns g c = never_misses
