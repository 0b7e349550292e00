use Rattle.cov_calls.specs.Views.{answered_view}
use Rattle.cov_calls.proofs.Handing.{hands-on-why}
use Rattle.cov_programs.proofs.Composing.{goes-on, on-left, on-right}
use Rattle.cov_step.specs.Objects.{on_sink}
use Rattle.cov_streams.specs.Trials.{on_trial}
use Rattle.cov_selects.specs.Rests.{selection_written}
use Rattle.cov_selects.proofs.selecting.selected.Goals as goal

pub returns-in_err-selection : goal.returns-in_err-selection
returns-in_err-selection g c =
    hands-on-why _ selection_written answered_view (on-left on_trial (on_sink g.O.Sink) _ c.in_err-selection.ensures) (λ s. tt) _ c.from_residual.ensures

pub returns : goal.returns
returns g c =
    goes-on selection_written (on-left on_trial (on_sink g.O.Sink) _ c.in_ok-selection.ensures) (on-right on_trial (on_sink g.O.Sink) _ c.write_selection.ensures)
