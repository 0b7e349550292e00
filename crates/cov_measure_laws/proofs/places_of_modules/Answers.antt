use Rattle.cov_measure_laws.proofs.Places.{modules_places}
use Rattle.cov_measure_laws.proofs.places_of_modules.Goals as goal

pub returns : goal.returns
returns c = modules_places c.told_arcs_of_modules.ensures
