use Rattle.cov_headline.proofs.Came.{came}
use Rattle.cov_headline.proofs.Heading.{law_of_headline}
use Rattle.cov_headline.proofs.laws.headline.Goals as goal

pub returns : goal.returns
returns g c = law_of_headline (came c.told_arcs_of_modules.ensures c.told_arcs_of_call.ensures) g.H.Shelf g.V.Vault g.M.Maker g.I.Source g.O.Sink g.P.Plugin g.G.Engine g.E.Sink
