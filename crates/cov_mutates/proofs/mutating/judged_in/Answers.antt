use Rattle.std.proofs.Common.{ap, refl}
use Rattle.cov_calls.specs.Views.{answered_view}
use Rattle.cov_calls.proofs.Handing.{hands-on-why}
use Rattle.cov_programs.proofs.Composing.{followed-so, goes-on, on-left, on-right}
use Rattle.cov_step.specs.Objects.{on_sink}
use Rattle.cov_streams.specs.Trials.{on_trial}
use Rattle.cov_mutates.specs.Rests.{written}
use Rattle.cov_mutates.specs.Views.{judged_views}
use Rattle.cov_mutates.proofs.mutating.judged_in.Goals as goal

pub returns-in_err-judged : goal.returns-in_err-judged
returns-in_err-judged g c =
    hands-on-why _ written answered_view
    (on-left on_trial (on_sink g.O.Sink) _ c.in_err-judged.ensures)
    (λ js. tt) _ c.from_residual.ensures

pub returns : goal.returns
returns g c =
    goes-on written
    (on-left on_trial (on_sink g.O.Sink) _ c.in_ok-judged.ensures)
    (on-right on_trial (on_sink g.O.Sink) tt
    (followed-so (on_sink g.O.Sink) (ap (λ js. written (judged_views c.args.loaded.now.programs js)) c.deref.ensures.value) refl c.written.ensures))
