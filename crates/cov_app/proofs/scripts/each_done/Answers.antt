use Rattle.std.proofs.Common.{ℕ, List, [], ◌∷◌, ◌++◌, Bor, Ok, refl, sym, ap, subst}
use Rattle.cov_calls.specs.Views.{answered_view}
use Rattle.cov_calls.proofs.Handing.{hands-on-why}
use Rattle.cov_programs.specs.Programs.{give}
use Rattle.cov_programs.proofs.Composing.{followed-so, goes-on, gives}
use Rattle.cov_step.specs.Scripts.{line_step}
use Rattle.cov_app.specs.Objects.{all_of, on_command, saying}
use Rattle.cov_app.proofs.Opening.{line-open}
use Rattle.std.proofs.lemmas.List.{drop_all}
use Rattle.cov_calls.proofs.Looping.{each-map}
use Rattle.cov_measure.specs.Measures.{streams}
use Rattle.cov_programs.proofs.Each.{IsDone, done-all, done-more-at, done-none, done-stops-at}
use Rattle.cov_step.specs.Calls.{IsNoMemory}
use Rattle.cov_step.specs.Phases.{done}
use Rattle.cov_app.proofs.scripts.each_done.Goals as goal

pub loop-line-init : goal.loop-line-init
loop-line-init g c = ([], done-none (on_command g.H.Shelf g.V.Vault g.M.Maker g.I.Source g.O.Sink g.P.Plugin g.G.Engine g.E.Sink) IsNoMemory (λ (line : Bor (List ℕ)). line_step line.now) (λ line. line-open line.now) c.args.lines.now (all_of c.args.shelf.now c.args.vault.now c.args.maker.now (streams c.args.input.now c.args.out.now c.args.plugins.now.items c.args.engine.now), saying c.args.err.now c.args.told.now))

pub returns-in_err-line_step : goal.returns-in_err-line_step
returns-in_err-line_step g c =
    hands-on-why _ (λ (ys : List (Unit {0})). give done) answered_view
    (followed-so (on_command g.H.Shelf g.V.Vault g.M.Maker g.I.Source g.O.Sink g.P.Plugin g.G.Engine g.E.Sink) (each-map line_step (λ (w : Bor (List ℕ)). w.now) c.args.lines.now) refl
    (done-stops-at (on_command g.H.Shelf g.V.Vault g.M.Maker g.I.Source g.O.Sink g.P.Plugin g.G.Engine g.E.Sink) IsNoMemory (λ (line : Bor (List ℕ)). line_step line.now) (λ line. line-open line.now) c.args.lines.now c.loop-line.line-index _ c.loop-line.invariant.0 (all_of c.args.shelf.now c.args.vault.now c.args.maker.now (streams c.args.input.now c.args.out.now c.args.plugins.now.items c.args.engine.now), saying c.args.err.now c.args.told.now) (all_of c.loop-line.shelf c.loop-line.vault c.loop-line.maker (streams c.loop-line.input c.loop-line.out c.loop-line.plugins.items c.loop-line.engine), saying c.loop-line.err c.loop-line.told) c.loop-line.invariant.1 _ (all_of c.line_step.new.shelf c.line_step.new.vault c.line_step.new.maker (streams c.line_step.new.input c.line_step.new.out c.line_step.new.plugins.items c.line_step.new.engine), saying c.line_step.new.err c.line_step.new.told) c.loop-line-test.true c.in_err-line_step.ensures))
    (λ ys. tt) _ c.from_residual.ensures

pub loop-line-preserved : goal.loop-line-preserved
loop-line-preserved g c = (
  c.loop-line.invariant.0 ++ tt ∷ [],
  done-more-at (on_command g.H.Shelf g.V.Vault g.M.Maker g.I.Source g.O.Sink g.P.Plugin g.G.Engine g.E.Sink) IsNoMemory (λ (line : Bor (List ℕ)). line_step line.now) (λ line. line-open line.now) c.args.lines.now c.loop-line.line-index _ c.loop-line.invariant.0 (all_of c.args.shelf.now c.args.vault.now c.args.maker.now (streams c.args.input.now c.args.out.now c.args.plugins.now.items c.args.engine.now), saying c.args.err.now c.args.told.now) (all_of c.loop-line.shelf c.loop-line.vault c.loop-line.maker (streams c.loop-line.input c.loop-line.out c.loop-line.plugins.items c.loop-line.engine), saying c.loop-line.err c.loop-line.told) c.loop-line.invariant.1 tt (all_of c.line_step.new.shelf c.line_step.new.vault c.line_step.new.maker (streams c.line_step.new.input c.line_step.new.out c.line_step.new.plugins.items c.line_step.new.engine), saying c.line_step.new.err c.line_step.new.told) c.loop-line-test.true c.in_ok-line_step.ensures,
)

pub returns : goal.returns
returns g c =
    goes-on (λ (ys : List (Unit {0})). give done)
    (followed-so (on_command g.H.Shelf g.V.Vault g.M.Maker g.I.Source g.O.Sink g.P.Plugin g.G.Engine g.E.Sink) (each-map line_step (λ (w : Bor (List ℕ)). w.now) c.args.lines.now) refl
    (done-all (on_command g.H.Shelf g.V.Vault g.M.Maker g.I.Source g.O.Sink g.P.Plugin g.G.Engine g.E.Sink) IsNoMemory (λ (line : Bor (List ℕ)). line_step line.now) (λ line. line-open line.now) c.args.lines.now c.loop-line.invariant.0 (all_of c.args.shelf.now c.args.vault.now c.args.maker.now (streams c.args.input.now c.args.out.now c.args.plugins.now.items c.args.engine.now), saying c.args.err.now c.args.told.now) (all_of c.loop-line.shelf c.loop-line.vault c.loop-line.maker (streams c.loop-line.input c.loop-line.out c.loop-line.plugins.items c.loop-line.engine), saying c.loop-line.err c.loop-line.told)
    (subst (λ rest. IsDone (on_command g.H.Shelf g.V.Vault g.M.Maker g.I.Source g.O.Sink g.P.Plugin g.G.Engine g.E.Sink) IsNoMemory (λ (line : Bor (List ℕ)). line_step line.now) c.args.lines.now rest c.loop-line.invariant.0 (all_of c.args.shelf.now c.args.vault.now c.args.maker.now (streams c.args.input.now c.args.out.now c.args.plugins.now.items c.args.engine.now), saying c.args.err.now c.args.told.now) (all_of c.loop-line.shelf c.loop-line.vault c.loop-line.maker (streams c.loop-line.input c.loop-line.out c.loop-line.plugins.items c.loop-line.engine), saying c.loop-line.err c.loop-line.told)) (drop_all c.loop-line.line-index c.args.lines.now c.loop-line-test.false) c.loop-line.invariant.1)))
    (followed-so (on_command g.H.Shelf g.V.Vault g.M.Maker g.I.Source g.O.Sink g.P.Plugin g.G.Engine g.E.Sink) refl (ap Ok (sym c.done.ensures)) gives)
