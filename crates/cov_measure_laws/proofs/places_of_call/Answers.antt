use Rattle.cov_measure_laws.proofs.Places.{call_places}
use Rattle.cov_measure_laws.proofs.places_of_call.Goals as goal

pub returns : goal.returns
returns c = call_places c.told_arcs_of_call.ensures
