use Rattle.cov_recorder.specs.Asking.{asks}
use Rattle.cov_recorder.specs.States.{state_of}
use Rattle.cov_recorder_laws.proofs.Law.{recorded_law}
use Rattle.cov_recorder_laws.proofs.recorded_steps.Goals as goal

pub returns : goal.returns
returns g c = recorded_law (asks g.A.Ask g.P.Plugin) state_of
