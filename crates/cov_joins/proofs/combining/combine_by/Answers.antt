use Rattle.std.proofs.Common.{ap, ◌∙◌, refl, map, string_bytes}
use Rattle.cov_config.specs.Plain.{rules_view}
use Rattle.cov_programs.proofs.Composing.{followed-so, starves}
use Rattle.cov_step.specs.Objects.{on_vault}
use Rattle.cov_joins.specs.Parts.{combining}
use Rattle.cov_joins.proofs.combining.combine_by.Goals as goal

pub returns-in-Ok : goal.returns-in-Ok
returns-in-Ok g c =
    followed-so (on_vault g.V.Vault)
    (ap (λ paths. combining c.args.how.append c.args.how.keep c.as_str.result.now (rules_view paths) (map string_bytes c.args.names.now)) c.as_slice.ensures.value
    ∙ ap (λ name. combining c.args.how.append c.args.how.keep name (rules_view c.args.settings.now.paths.items) (map string_bytes c.args.names.now)) (c.as_str.ensures.value ∙ c.in-Ok.ensures))
    refl c.combine_into.ensures

pub returns-in-Err : goal.returns-in-Err
returns-in-Err g c = starves tt refl
