use Rattle.cov_programs.proofs.Composing.{goes-on, on-left, on-right}
use Rattle.cov_step.specs.Objects.{on_maker, on_sink}
use Rattle.cov_streams.specs.Trials.{on_trial}
use Rattle.cov_programs.specs.Objects.{beside}
use Rattle.cov_calls.specs.Views.{answered_view}
use Rattle.cov_calls.proofs.Handing.{hands-on-why}
use Rattle.cov_made.specs.Rests.{with_patterns}
use Rattle.cov_made.proofs.Objects.{maker-first, past-maker}
use Rattle.cov_made.proofs.making.made.Goals as goal

pub returns-in_err-patterns : goal.returns-in_err-patterns
returns-in_err-patterns g c =
    hands-on-why _ (with_patterns c.args.seed c.args.size) answered_view
    (maker-first g.M.Maker g.O.Sink _ c.in_err-patterns.ensures) (λ p. tt) _
    c.from_residual.ensures

pub returns : goal.returns
returns g c =
    goes-on (with_patterns c.args.seed c.args.size)
    (maker-first g.M.Maker g.O.Sink _ c.in_ok-patterns.ensures)
    (past-maker g.M.Maker g.O.Sink _ c.with_patterns.ensures)
