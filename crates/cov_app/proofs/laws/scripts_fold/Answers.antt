use Rattle.cov_step.proofs.Folds.{law_of_fold}
use Rattle.cov_app.specs.Objects.{on_command}
use Rattle.cov_app.proofs.laws.scripts_fold.Goals as goal

pub returns : goal.returns
returns g c = law_of_fold (on_command g.H.Shelf g.V.Vault g.M.Maker g.I.Source g.O.Sink g.P.Plugin g.G.Engine g.E.Sink)
