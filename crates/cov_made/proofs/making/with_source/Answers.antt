use Rattle.cov_calls.specs.Views.{answered_view, lists_view}
use Rattle.cov_calls.proofs.Handing.{hands-on-why}
use Rattle.cov_programs.proofs.Composing.{goes-on, on-left, on-right}
use Rattle.cov_step.specs.Making.{made_line}
use Rattle.cov_step.specs.Objects.{on_sink}
use Rattle.cov_step.specs.Phases.{done, write_last}
use Rattle.cov_streams.specs.Trials.{on_trial}
use Rattle.cov_made.specs.Views.{source_view}
use Rattle.cov_made.proofs.making.with_source.Goals as goal

pub returns-in_err-ran : goal.returns-in_err-ran
returns-in_err-ran g c =
    hands-on-why _ (λ r. write_last (made_line c.args.seed c.args.size
    (lists_view c.args.patterns.now) (source_view c.args.source.now) r) done) answered_view
    (on-left on_trial (on_sink g.O.Sink) _ c.in_err-ran.ensures) (λ r. tt) _
    c.from_residual.ensures

pub returns : goal.returns
returns g c =
    goes-on (λ r. write_last (made_line c.args.seed c.args.size
    (lists_view c.args.patterns.now) (source_view c.args.source.now) r) done)
    (on-left on_trial (on_sink g.O.Sink) _ c.in_ok-ran.ensures)
    (on-right on_trial (on_sink g.O.Sink) _ c.write_line.ensures)
