use Rattle.std.proofs.Common.{ap, map, refl, sym, subst, ◌∙◌}
use Rattle.cov_measure_laws.proofs.Leaving.{as-before}
use Rattle.cov_run.specs.Loads.{loaded_modules}
use Rattle.cov_runs.specs.Measured.{HoldPossible}
use Rattle.cov_runs.proofs.PossibleSets.{hold, possible_in}
use Rattle.cov_suite.proofs.Ending.{no-memory}
use Rattle.cov_suites.proofs.testing.loaded_suite.Goals as goal

pub suite_within-requires-clause-sets : goal.suite_within-requires-clause-sets
suite_within-requires-clause-sets g c =
    subst (HoldPossible (loaded_modules c.args.loaded.now)) (sym (c.as_slice.ensures.value ∙ c.in-Ok.ensures ∙ ap (map possible_in) c.deref.ensures.value))
    (hold c.args.loaded.now.programs.modules.items c.args.loaded.now.modules.items)

pub returns-in-Err : goal.returns-in-Err
returns-in-Err g c = no-memory g.P.Plugin _ _ c.args.plugins.now.items c.args.plugins.now.items _ refl (as-before g.P.Plugin c.args.plugins.now.items)
