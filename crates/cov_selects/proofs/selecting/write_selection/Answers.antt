use Rattle.std.proofs.Common.{List, ℕ, ap, refl, ◌∙◌}
use Rattle.cov_calls.specs.Views.{answered_view}
use Rattle.cov_programs.proofs.Composing.{followed-so, starves}
use Rattle.cov_step.specs.Objects.{on_sink}
use Rattle.cov_step.specs.Phases.{write_last}
use Rattle.cov_step.specs.Selecting.{selection_lines}
use Rattle.cov_selects.specs.Views.{selection_view}
use Rattle.cov_selects.proofs.selecting.write_selection.Goals as goal

pub returns-in-Ok : goal.returns-in-Ok
returns-in-Ok g c =
    followed-so (on_sink g.O.Sink)
    (ap (λ (bytes : List ℕ). write_last bytes (answered_view c.done.result)) (c.as_bytes.ensures.value ∙ c.in-Ok.ensures)
    ∙ ap (write_last (selection_lines (selection_view c.args.selection.now))) c.done.ensures)
    refl c.write_last.ensures

pub returns-in-Err : goal.returns-in-Err
returns-in-Err g c = starves tt refl
