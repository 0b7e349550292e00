use Rattle.std.proofs.Common.{Bool, ap, refl}
use Rattle.cov_programs.specs.Objects.{beside, nobody}
use Rattle.cov_programs.specs.Programs.{bind}
use Rattle.cov_programs.proofs.Composing.{followed-so, goes-on, on-left, on-nobody}
use Rattle.cov_run.specs.Loads.{loaded_modules}
use Rattle.cov_step.specs.Answers.{Before}
use Rattle.cov_step.specs.Calls.{Call, Answer}
use Rattle.cov_step.specs.Commands.{measured}
use Rattle.cov_step.specs.Objects.{on_vault}
use Rattle.cov_step.specs.Phases.{joins}
use Rattle.cov_streams.specs.Objects.{on_run}
use Rattle.cov_calls.specs.Views.{answered_view, before_view}
use Rattle.cov_calls.proofs.Handing.{hands-on-why}
use Rattle.cov_runs.proofs.Beginnings.{joining-open}
use Rattle.cov_runs.proofs.runs.targeted.Goals as goal

pub returns-in_err-was : goal.returns-in_err-was
returns-in_err-was g c = λ asked files named script r h.
    hands-on-why _ (λ (was : Before). bind (joins c.args.append c.args.own.now asked.arcs was) (measured c.args.own.now asked (loaded_modules c.args.loaded.now) files)) answered_view
    (on-left (on_vault g.V.Vault) (on_run g.I.Source g.O.Sink g.P.Plugin g.G.Engine) _ c.in_err-was.ensures)
    (joining-open c.args.append c.args.own.now asked (loaded_modules c.args.loaded.now) files) _ c.from_residual.ensures

pub returns-in_err-old : goal.returns-in_err-old
returns-in_err-old g c = λ asked files named script r h.
    goes-on (λ (was : Before). bind (joins c.args.append c.args.own.now asked.arcs was) (measured c.args.own.now asked (loaded_modules c.args.loaded.now) files))
    (on-left (on_vault g.V.Vault) (on_run g.I.Source g.O.Sink g.P.Plugin g.G.Engine) _ c.in_ok-was.ensures)
    (hands-on-why _ (measured c.args.own.now asked (loaded_modules c.args.loaded.now) files) answered_view
    (on-nobody (beside (on_vault g.V.Vault) (on_run g.I.Source g.O.Sink g.P.Plugin g.G.Engine)) _
    (followed-so (nobody Call Answer) (ap (λ (arcs : Bool). joins c.args.append c.args.own.now arcs (before_view c.in_ok-was.was')) (ap (λ q. q.arcs) r.asks)) refl c.in_err-old.ensures))
    (λ old. tt) _ c.from_residual-in_err-old.ensures)

pub returns : goal.returns
returns g c = λ asked files named script r h.
    goes-on (λ (was : Before). bind (joins c.args.append c.args.own.now asked.arcs was) (measured c.args.own.now asked (loaded_modules c.args.loaded.now) files))
    (on-left (on_vault g.V.Vault) (on_run g.I.Source g.O.Sink g.P.Plugin g.G.Engine) _ c.in_ok-was.ensures)
    (goes-on (measured c.args.own.now asked (loaded_modules c.args.loaded.now) files)
    (on-nobody (beside (on_vault g.V.Vault) (on_run g.I.Source g.O.Sink g.P.Plugin g.G.Engine)) _
    (followed-so (nobody Call Answer) (ap (λ (arcs : Bool). joins c.args.append c.args.own.now arcs (before_view c.in_ok-was.was')) (ap (λ q. q.arcs) r.asks)) refl c.in_ok-old.ensures))
    (c.measured.ensures asked files named script r h))
