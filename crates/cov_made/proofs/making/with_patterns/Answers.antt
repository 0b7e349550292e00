use Rattle.cov_calls.specs.Views.{answered_view, lists_view}
use Rattle.cov_calls.proofs.Handing.{hands-on-why}
use Rattle.cov_programs.proofs.Composing.{goes-on, on-left}
use Rattle.cov_step.specs.Objects.{on_sink}
use Rattle.cov_streams.specs.Trials.{on_trial}
use Rattle.cov_made.specs.Rests.{with_source}
use Rattle.cov_made.proofs.making.with_patterns.Goals as goal

pub returns-in_err-source : goal.returns-in_err-source
returns-in_err-source g c =
    hands-on-why _ (with_source c.args.seed c.args.size (lists_view c.args.patterns.now))
    answered_view (on-left on_trial (on_sink g.O.Sink) _ c.in_err-source.ensures.follows) (λ f. tt)
    _ c.from_residual.ensures

pub returns : goal.returns
returns g c =
    goes-on (with_source c.args.seed c.args.size (lists_view c.args.patterns.now))
    (on-left on_trial (on_sink g.O.Sink) _ c.in_ok-source.ensures.follows) c.with_source.ensures

pub with_source-requires : goal.with_source-requires
with_source-requires g c = c.in_ok-source.ensures.made
