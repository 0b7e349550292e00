use Rattle.std.proofs.Common.{ap, map, refl, string_bytes}
use Rattle.cov_programs.proofs.Composing.{followed-so, goes-on, on-left, on-right}
use Rattle.cov_step.specs.Commands.{usual_steps, words_of}
use Rattle.cov_step.specs.Names.{or_else}
use Rattle.cov_step.specs.Objects.{on_shelf}
use Rattle.cov_step.specs.Phases.{main_name, opened}
use Rattle.cov_streams.specs.Objects.{on_run}
use Rattle.cov_calls.specs.Views.{answered_view}
use Rattle.cov_calls.proofs.Handing.{hands-on-why}
use Rattle.cov_runs.specs.Crossed.{crossed}
use Rattle.cov_runs.proofs.crossings.arcs.Goals as goal

pub returns-in_err-loaded : goal.returns-in_err-loaded
returns-in_err-loaded g c =
    hands-on-why _ (λ ms. crossed ms (words_of (string_bytes c.args.script) (map string_bytes c.args.args.items)) (or_else c.args.budget usual_steps)) answered_view
    (on-left (on_shelf g.H.Shelf) (on_run g.I.Source g.O.Sink g.P.Plugin g.G.Engine) _ (followed-so (on_shelf g.H.Shelf) (ap (opened main_name) c.as_str.ensures.value) refl c.in_err-loaded.ensures.follows))
    (λ ms. tt) _ c.from_residual.ensures

pub returns : goal.returns
returns g c =
    goes-on (λ ms. crossed ms (words_of (string_bytes c.args.script) (map string_bytes c.args.args.items)) (or_else c.args.budget usual_steps))
    (on-left (on_shelf g.H.Shelf) (on_run g.I.Source g.O.Sink g.P.Plugin g.G.Engine) _ (followed-so (on_shelf g.H.Shelf) (ap (opened main_name) c.as_str.ensures.value) refl c.in_ok-loaded.ensures.follows))
    (on-right (on_shelf g.H.Shelf) (on_run g.I.Source g.O.Sink g.P.Plugin g.G.Engine) _
    (c.crossed.ensures (words_of (string_bytes c.args.script) (map string_bytes c.args.args.items)) (or_else c.args.budget usual_steps) c.request_of-request.ensures))
