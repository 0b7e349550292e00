use Rattle.std.proofs.Common.{Bool, if◌then◌else◌, refl, sym, ap, ◌∙◌}
use Rattle.cov_programs.specs.Objects.{beside}
use Rattle.cov_programs.specs.Programs.{ask}
use Rattle.cov_programs.proofs.Composing.{followed-so, on-left, on-right}
use Rattle.cov_step.specs.Answers.{last, shelf_refusal}
use Rattle.cov_step.specs.Calls.{puts}
use Rattle.cov_step.specs.Objects.{on_shelf, on_sink}
use Rattle.cov_step.specs.Phases.{write_last}
use Rattle.cov_calls.specs.Views.{answered_view}
use Rattle.cov_calls.proofs.lasts.put_last.Goals as goal

pub returns-then-eq : goal.returns-then-eq
returns-then-eq g c =
    followed-so (beside (on_shelf g.H.Shelf) (on_sink g.O.Sink))
    (ap (λ (b : Bool). if b then write_last c.args.text.now (answered_view c.args.answered) else ask (puts c.args.name.now c.args.text.now) (last shelf_refusal (answered_view c.args.answered))) (sym c.if-eq.true ∙ c.eq.ensures))
    refl (on-right (on_shelf g.H.Shelf) (on_sink g.O.Sink) _ c.write_last.ensures)

pub returns-else-eq : goal.returns-else-eq
returns-else-eq g c =
    followed-so (beside (on_shelf g.H.Shelf) (on_sink g.O.Sink))
    (ap (λ (b : Bool). if b then write_last c.args.text.now (answered_view c.args.answered) else ask (puts c.args.name.now c.args.text.now) (last shelf_refusal (answered_view c.args.answered))) (sym c.if-eq.false ∙ c.eq.ensures))
    refl (on-left (on_shelf g.H.Shelf) (on_sink g.O.Sink) _ c.put.ensures)
