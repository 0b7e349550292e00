use Rattle.cov_recorder.specs.Asking.{asks, SourcesLeft}
use Rattle.cov_recorder.specs.States.{state_of}
use Rattle.cov_recorder.proofs.Telling.{recording_law}
use Rattle.cov_recorder.proofs.laws.recorded_rows.Goals as goal

pub returns : goal.returns
returns g c = recording_law (asks g.A.Ask g.P.Plugin) (SourcesLeft g.A.Ask g.P.Plugin) state_of
