use Rattle.std.proofs.Common.{ℕ, List, [], ◌∷◌, ◌++◌, Bor, Ok, refl, sym, ap, subst}
use Rattle.std.proofs.lemmas.List.{drop_all}
use Rattle.cov_programs.specs.Programs.{give}
use Rattle.cov_programs.proofs.Composing.{followed-so, gives, goes-on}
use Rattle.cov_programs.proofs.Each.{IsDone, done-all, done-more-at, done-stops-at}
use Rattle.cov_step.specs.Calls.{IsNoMemory}
use Rattle.cov_step.specs.Objects.{on_vault}
use Rattle.cov_step.specs.Phases.{removing, done}
use Rattle.cov_calls.specs.Views.{answered_view}
use Rattle.cov_calls.proofs.Handing.{hands-on-why}
use Rattle.cov_calls.proofs.Looping.{each-map}
use Rattle.cov_joins.proofs.removing.remove_each.Goals as goal

pub returns-in_err-remove : goal.returns-in_err-remove
returns-in_err-remove g c =
    hands-on-why _ (λ (ys : List (Unit {0})). give done) answered_view
    (followed-so (on_vault g.V.Vault) (each-map removing (λ (name : Bor (List ℕ)). name.now) c.args.names.now) refl
    (done-stops-at (on_vault g.V.Vault) IsNoMemory (λ (name : Bor (List ℕ)). removing name.now) (λ n. tt) c.args.names.now c.loop-name.name-index _ c.loop-name.invariant.0 c.args.vault.now c.loop-name.vault c.loop-name.invariant.1 _ c.remove.new.vault c.loop-name-test.true c.in_err-remove.ensures))
    (λ ys. tt) _ c.from_residual.ensures

pub loop-name-preserved : goal.loop-name-preserved
loop-name-preserved g c = (
  c.loop-name.invariant.0 ++ tt ∷ [],
  done-more-at (on_vault g.V.Vault) IsNoMemory (λ (name : Bor (List ℕ)). removing name.now) (λ n. tt) c.args.names.now c.loop-name.name-index _ c.loop-name.invariant.0 c.args.vault.now c.loop-name.vault c.loop-name.invariant.1 tt c.remove.new.vault c.loop-name-test.true c.in_ok-remove.ensures,
)

pub returns : goal.returns
returns g c =
    goes-on (λ (ys : List (Unit {0})). give done)
    (followed-so (on_vault g.V.Vault) (each-map removing (λ (name : Bor (List ℕ)). name.now) c.args.names.now) refl
    (done-all (on_vault g.V.Vault) IsNoMemory (λ (name : Bor (List ℕ)). removing name.now) (λ n. tt) c.args.names.now c.loop-name.invariant.0 c.args.vault.now c.loop-name.vault
    (subst (λ rest. IsDone (on_vault g.V.Vault) IsNoMemory (λ (name : Bor (List ℕ)). removing name.now) c.args.names.now rest c.loop-name.invariant.0 c.args.vault.now c.loop-name.vault) (drop_all c.loop-name.name-index c.args.names.now c.loop-name-test.false) c.loop-name.invariant.1)))
    (followed-so (on_vault g.V.Vault) refl (ap Ok (sym c.done.ensures)) gives)
