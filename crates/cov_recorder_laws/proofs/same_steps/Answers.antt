use Rattle.cov_recorder.specs.Asking.{asks}
use Rattle.cov_recorder.specs.States.{state_of}
use Rattle.cov_recorder_laws.proofs.Walk.{same_steps_law}
use Rattle.cov_recorder_laws.proofs.same_steps.Goals as goal

pub returns : goal.returns
returns g c = same_steps_law (asks g.A.Ask g.P.Plugin) state_of (asks g.B.Ask g.Q.Plugin) state_of
