use Rattle.cov_recorder.specs.Asking.{asks}
use Rattle.cov_recorder.specs.States.{state_of}
use Rattle.cov_recorder_laws.proofs.Law.{call_law}
use Rattle.cov_recorder_laws.proofs.recorded_steps_of_call.Goals as goal

pub returns : goal.returns
returns g c = call_law (asks g.A.Ask g.P.Plugin) state_of c.told_arcs_of_call.ensures
