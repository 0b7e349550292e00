use Rattle.cov_select.proofs.Chosen.{chosen-in-suite}
use Rattle.cov_select.proofs.laws.chosen_in_suite.Goals as goal

pub returns : goal.returns
returns g c = chosen-in-suite g.P.Plugin c.unchanged_by_paths.ensures c.told_arcs_of_modules.ensures c.told_arcs_of_call.ensures
