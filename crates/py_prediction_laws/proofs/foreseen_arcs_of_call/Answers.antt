use Rattle.py_prediction_laws.proofs.Laws.{call_sound}
use Rattle.py_prediction_laws.proofs.foreseen_arcs_of_call.Goals as goal

pub returns : goal.returns
returns c = call_sound
