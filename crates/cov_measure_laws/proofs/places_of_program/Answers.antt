use Rattle.cov_measure_laws.proofs.Places.{program_places}
use Rattle.cov_measure_laws.proofs.places_of_program.Goals as goal

pub returns : goal.returns
returns c = program_places c.told_arcs_of_modules.ensures
