use Rattle.cov_complete_laws.proofs.Scripts.{complete-script}
use Rattle.cov_complete_laws.proofs.Sizes.{small-size}
use Rattle.cov_complete_laws.proofs.laws.complete_script.Goals as goal

pub returns : goal.returns
returns g c =
    complete-script c.completes.ensures.completes c.one_reading.ensures.one
    c.made_are_read.ensures c.one_command.ensures small-size g.H.Shelf g.V.Vault g.M.Maker
    g.I.Source g.O.Sink g.P.Plugin g.G.Engine g.E.Sink
