use Rattle.std.proofs.Common.{ap, refl, ◌∙◌}
use Rattle.cov_programs.proofs.Composing.{starves}
use Rattle.cov_step.specs.Testing.{suite_lines}
use Rattle.cov_suites.specs.Views.{results_view}
use Rattle.cov_suites.proofs.suites.ended.Goals as goal

pub ended_with-requires : goal.ended_with-requires
ended_with-requires g c = c.as_str.ensures.value ∙ c.in-Ok.ensures ∙ ap (λ ts. suite_lines (results_view ts)) c.deref.ensures.value

pub returns-in-Ok : goal.returns-in-Ok
returns-in-Ok g c = c.ended_with.ensures

pub returns-in-Err : goal.returns-in-Err
returns-in-Err g c = starves tt refl
