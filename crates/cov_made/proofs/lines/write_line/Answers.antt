use Rattle.std.proofs.Common.{ap, refl, ◌∙◌}
use Rattle.cov_programs.proofs.Composing.{followed-so, starves}
use Rattle.cov_step.specs.Objects.{on_sink}
use Rattle.cov_step.specs.Phases.{done, write_last}
use Rattle.cov_made.proofs.lines.write_line.Goals as goal

pub returns-in-Ok : goal.returns-in-Ok
returns-in-Ok g c =
    followed-so (on_sink g.O.Sink)
    (ap (λ a. write_last c.as_bytes.result.now a) c.done-answered.ensures
    ∙ ap (λ b. write_last b done) (c.as_bytes.ensures.value ∙ c.in-Ok.ensures)) refl
    c.write_last.ensures

pub returns-in-Err : goal.returns-in-Err
returns-in-Err g c = starves tt refl
