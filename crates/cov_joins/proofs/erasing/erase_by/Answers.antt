use Rattle.std.proofs.Common.{ap, ◌∙◌, refl}
use Rattle.cov_programs.proofs.Composing.{followed-so, starves}
use Rattle.cov_step.specs.Calls.{Answered}
use Rattle.cov_step.specs.Objects.{on_vault}
use Rattle.cov_step.specs.Phases.{done, remove_last}
use Rattle.cov_joins.proofs.erasing.erase_by.Goals as goal

pub returns-in-Ok : goal.returns-in-Ok
returns-in-Ok g c =
    followed-so (on_vault g.V.Vault)
    (ap (λ (a : Answered). remove_last c.as_str.result.now a) c.done.ensures ∙ ap (λ name. remove_last name done) (c.as_str.ensures.value ∙ c.in-Ok.ensures))
    refl c.remove_last.ensures

pub returns-in-Err : goal.returns-in-Err
returns-in-Err g c = starves tt refl
