use Rattle.std.proofs.Common.{◌∙◌, refl, ap}
use Rattle.cov_programs.specs.Programs.{ask}
use Rattle.cov_programs.proofs.Composing.{followed-so, starves}
use Rattle.cov_step.specs.Objects.{on_sink}
use Rattle.cov_step.specs.Answers.{on, sink_refusal}
use Rattle.cov_step.specs.Calls.{writes}
use Rattle.cov_app.proofs.scripts.write_status.Goals as goal

pub returns-in-Ok : goal.returns-in-Ok
returns-in-Ok g c = followed-so (on_sink g.O.Sink) (ap (λ text. ask (writes text) (on sink_refusal)) (c.as_bytes.ensures.value ∙ c.in-Ok.ensures)) refl c.write_line.ensures

pub returns-in-Err : goal.returns-in-Err
returns-in-Err g c = starves tt refl
