use Rattle.cov_recorder.specs.Asking.{asks}
use Rattle.cov_recorder.specs.States.{state_of}
use Rattle.cov_measure_laws.proofs.Places.{recorded_places}
use Rattle.cov_measure_laws.proofs.recorded_places.Goals as goal

pub returns : goal.returns
returns g c = recorded_places (asks g.A.Ask g.P.Plugin) state_of
