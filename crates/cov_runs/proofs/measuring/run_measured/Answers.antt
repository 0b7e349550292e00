use Rattle.std.proofs.Common.{ap, map, refl, sym, subst, ◌∙◌}
use Rattle.cov_programs.proofs.Composing.{starves}
use Rattle.cov_run.specs.Loads.{loaded_modules}
use Rattle.cov_runs.specs.Measured.{HoldPossible}
use Rattle.cov_runs.proofs.PossibleSets.{hold, possible_in}
use Rattle.cov_runs.proofs.measuring.run_measured.Goals as goal

pub run_with-requires-clause-sets : goal.run_with-requires-clause-sets
run_with-requires-clause-sets g c =
    subst (HoldPossible (loaded_modules c.args.loaded.now)) (sym (c.in-Ok.ensures ∙ ap (map possible_in) c.deref.ensures.value))
    (hold c.args.loaded.now.programs.modules.items c.args.loaded.now.modules.items)

pub returns-in-Ok : goal.returns-in-Ok
returns-in-Ok g c = c.run_with.ensures

pub returns-in-Err : goal.returns-in-Err
returns-in-Err g c = λ asked files named script r h. starves tt refl
