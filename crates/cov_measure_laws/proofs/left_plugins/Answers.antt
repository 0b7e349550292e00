use Rattle.cov_recorder.specs.States.{state_of}
use Rattle.cov_measure_laws.proofs.Leaving.{leaving_law}
use Rattle.cov_measure_laws.proofs.left_plugins.Goals as goal

pub returns : goal.returns
returns g c = leaving_law g.A.Ask g.P.Plugin state_of
