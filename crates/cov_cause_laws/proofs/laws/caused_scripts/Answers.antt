use Rattle.cov_complete_laws.proofs.Sizes.{small-size}
use Rattle.cov_cause_laws.proofs.Causing.{script-law}
use Rattle.cov_cause_laws.proofs.laws.caused_scripts.Goals as goal

pub returns : goal.returns
returns g c =
    script-law c.one_reading.ensures.one c.one_loading.ensures.one c.one_loading.ensures.not_stopped
    c.made_are_read.ensures c.one_command.ensures small-size g.H.Shelf g.V.Vault g.M.Maker
    g.I.Source g.O.Sink g.P.Plugin g.G.Engine g.E.Sink
