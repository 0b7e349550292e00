use Rattle.std.proofs.Common.{ℕ, ap, refl}
use Rattle.cov_programs.proofs.Composing.{followed-so, goes-on}
use Rattle.cov_step.specs.Objects.{on_sink}
use Rattle.cov_calls.specs.Views.{answered_view}
use Rattle.cov_calls.proofs.Handing.{hands-on-why}
use Rattle.cov_runs.specs.Crossed.{listed}
use Rattle.cov_runs.specs.Measured.{ran_view}
use Rattle.cov_runs.proofs.Lifting.{beside-run}
use Rattle.cov_runs.proofs.crossings.crossed.Goals as goal

pub returns-in_err-m : goal.returns-in_err-m
returns-in_err-m g c = λ words budget e. hands-on-why _ (listed budget) answered_view (c.in_err-m.ensures words budget e) (λ r. tt) _ c.from_residual.ensures

pub returns : goal.returns
returns g c = λ words budget e.
    goes-on (listed budget) (c.in_ok-m.ensures words budget e)
    (beside-run g.I.Source g.O.Sink g.P.Plugin g.G.Engine _ _ _
    (followed-so (on_sink g.O.Sink) (ap (λ (b : ℕ). listed b (ran_view c.in_ok-m.m)) (ap (λ q. q.budget) e)) refl c.listed.ensures))
