use Rattle.std.proofs.Common.{ap, refl, ◌∙◌}
use Rattle.cov_programs.proofs.Composing.{followed-so, starves}
use Rattle.cov_step.specs.Objects.{on_sink}
use Rattle.cov_step.specs.Phases.{write_last}
use Rattle.cov_calls.specs.Views.{answered_view}
use Rattle.cov_runs.proofs.crossings.write_listing.Goals as goal

pub returns-in-Ok : goal.returns-in-Ok
returns-in-Ok g c = followed-so (on_sink g.O.Sink) (ap (λ text. write_last text (answered_view c.args.answered)) (c.as_bytes.ensures.value ∙ c.in-Ok.ensures)) refl c.write_last.ensures

pub returns-in-Err : goal.returns-in-Err
returns-in-Err g c = starves tt refl
