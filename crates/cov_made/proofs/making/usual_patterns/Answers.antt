use Rattle.std.proofs.Common.{[], ◌∷◌, List, String, Global, map, ap, ap₂, refl, string_bytes, ◌∙◌}
use Rattle.cov_calls.proofs.Patterning.{patterns-open}
use Rattle.cov_config.specs.Settings.{no_cover, no_branch}
use Rattle.cov_programs.proofs.Composing.{followed-so, starves}
use Rattle.cov_step.specs.Objects.{on_maker}
use Rattle.cov_step.specs.Phases.{patterns_by}
use Rattle.cov_made.proofs.making.usual_patterns.Goals as goal

pub returns-in-Ok : goal.returns-in-Ok
returns-in-Ok g c =
    followed-so (on_maker g.M.Maker)
    (ap₂ (λ (a b : List (String Global)). patterns_by (map string_bytes a) (map string_bytes b))
    c.as_slice.ensures.value c.as_slice-in-Ok.ensures.value
    ∙ ap (λ s. patterns_by s.report.exclude_lines s.report.partial_branches) c.in-Ok.ensures.usual)
    refl c.patterns_by.ensures

pub returns-in-Err : goal.returns-in-Err
returns-in-Err g c = starves (patterns-open (no_cover ∷ []) (no_branch ∷ [])) refl
