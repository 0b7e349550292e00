use Rattle.py_prediction_laws.proofs.Laws.{program_sound}
use Rattle.py_prediction_laws.proofs.foreseen_arcs.Goals as goal

pub returns : goal.returns
returns c = program_sound
