use Rattle.std.proofs.Common.{ap, map, refl, sym, subst, ◌∙◌}
use Rattle.cov_programs.proofs.Composing.{starves}
use Rattle.cov_run.specs.Loads.{loaded_modules}
use Rattle.cov_runs.specs.Measured.{HoldPossible}
use Rattle.cov_runs.proofs.PossibleSets.{hold, possible_in}
use Rattle.cov_runs.proofs.crossings.crossing.Goals as goal

pub cross-requires-clause-sets : goal.cross-requires-clause-sets
cross-requires-clause-sets g c =
    subst (HoldPossible (loaded_modules c.args.loaded.now)) (sym (c.in-Ok.ensures ∙ ap (map possible_in) c.deref.ensures.value))
    (hold c.args.loaded.now.programs.modules.items c.args.loaded.now.modules.items)

pub returns-in-Ok : goal.returns-in-Ok
returns-in-Ok g c = c.cross.ensures

pub returns-in-Err : goal.returns-in-Err
returns-in-Err g c = λ words budget e. starves tt refl
