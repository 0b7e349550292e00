use Rattle.std.proofs.Common.{List, ℕ, ap, refl, ◌∙◌}
use Rattle.cov_calls.specs.Views.{answered_view}
use Rattle.cov_programs.proofs.Composing.{followed-so, starves}
use Rattle.cov_step.specs.Calls.{Answered}
use Rattle.cov_step.specs.Mutating.{mutation_lines}
use Rattle.cov_step.specs.Objects.{on_sink}
use Rattle.cov_step.specs.Phases.{done, write_last}
use Rattle.cov_mutates.specs.Views.{judged_views}
use Rattle.cov_mutates.proofs.mutating.written.Goals as goal

pub returns-in-Ok : goal.returns-in-Ok
returns-in-Ok g c =
    followed-so (on_sink g.O.Sink)
    (ap (λ (text : List ℕ). write_last text (answered_view c.done.result)) (c.as_bytes.ensures.value ∙ c.in-Ok.ensures)
    ∙ ap (λ (a : Answered). write_last (mutation_lines (judged_views c.args.programs.now c.args.judged.now)) a) c.done.ensures)
    refl c.write_last.ensures

pub returns-in-Err : goal.returns-in-Err
returns-in-Err g c = starves tt refl
