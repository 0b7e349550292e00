use Rattle.py_prediction_laws.proofs.Laws.{modules_sound}
use Rattle.py_prediction_laws.proofs.foreseen_arcs_of_modules.Goals as goal

pub returns : goal.returns
returns c = modules_sound
