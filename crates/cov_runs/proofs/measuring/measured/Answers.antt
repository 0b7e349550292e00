use Rattle.std.proofs.Common.{ℕ, ap, refl}
use Rattle.cov_programs.proofs.Composing.{followed-so, goes-on, on-left, on-right}
use Rattle.cov_step.specs.Objects.{on_vault}
use Rattle.cov_streams.specs.Objects.{on_run}
use Rattle.cov_calls.specs.Views.{answered_view}
use Rattle.cov_calls.proofs.Handing.{hands-on-why}
use Rattle.cov_runs.specs.Measured.{ran_view}
use Rattle.cov_runs.specs.Rests.{saved}
use Rattle.cov_runs.proofs.measuring.measured.Goals as goal

pub returns-in_err-m : goal.returns-in_err-m
returns-in_err-m g c = λ asked files named script r h.
    hands-on-why _ (saved c.args.own.now asked.budget c.args.old) answered_view
    (on-right (on_vault g.V.Vault) (on_run g.I.Source g.O.Sink g.P.Plugin g.G.Engine) _ (c.in_err-m.ensures asked files named script r h)) (λ m. tt) _ c.from_residual.ensures

pub returns : goal.returns
returns g c = λ asked files named script r h.
    goes-on (saved c.args.own.now asked.budget c.args.old)
    (on-right (on_vault g.V.Vault) (on_run g.I.Source g.O.Sink g.P.Plugin g.G.Engine) _ (c.in_ok-m.ensures asked files named script r h))
    (on-left (on_vault g.V.Vault) (on_run g.I.Source g.O.Sink g.P.Plugin g.G.Engine) _
    (followed-so (on_vault g.V.Vault) (ap (λ (b : ℕ). saved c.args.own.now b c.args.old (ran_view c.in_ok-m.m)) (ap (λ q. q.budget) r.asks)) refl c.saved.ensures))
