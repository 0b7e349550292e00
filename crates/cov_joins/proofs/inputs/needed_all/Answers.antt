use Rattle.std.proofs.Common.{◌+◌, [], ◌∷◌, ◌++◌, length, Vec, drop, arith, refl, sym, ap, ◌∙◌, subst, string_bytes}
use Rattle.std.specs.declared.alloc.Global.{Global}
use Rattle.std.proofs.lemmas.List.{drop_all, length-append}
use Rattle.cov_data.specs.declared.dataset.Data.{Data}
use Rattle.cov_programs.proofs.Composing.{followed-so}
use Rattle.cov_programs.proofs.Each.{IsDone, done-all, done-more-at, done-starves, done-stops-at}
use Rattle.cov_programs.proofs.Results.{handed}
use Rattle.cov_step.specs.Calls.{IsNoMemory, seen}
use Rattle.cov_step.specs.Objects.{on_vault}
use Rattle.cov_step.specs.Phases.{needed}
use Rattle.cov_why.specs.Answers.{plain_why}
use Rattle.cov_calls.proofs.Looping.{each-map}
use Rattle.cov_joins.proofs.inputs.needed_all.Goals as goal

pub returns-in_err-content-clause-follows : goal.returns-in_err-content-clause-follows
returns-in_err-content-clause-follows g c =
    followed-so (on_vault g.V.Vault) (each-map needed string_bytes c.args.names.now) (ap (seen (λ (all : Vec Data Global). all.items)) (sym (handed _ _ c.from_residual.ensures)))
    (done-stops-at (on_vault g.V.Vault) IsNoMemory (λ name. needed (string_bytes name)) (λ n. tt) c.args.names.now c.loop-name.name-index c.name-item.result c.loop-name.all.items c.args.vault.now c.loop-name.vault c.loop-name.invariant.0 _ c.needed.new.vault c.loop-name-test.true
    (followed-so (on_vault g.V.Vault) (ap needed (c.as_str.ensures.value ∙ ap string_bytes c.name-item.is)) refl c.in_err-content.ensures))

pub returns-in_err-add-clause-follows : goal.returns-in_err-add-clause-follows
returns-in_err-add-clause-follows g c =
    followed-so (on_vault g.V.Vault) (each-map needed string_bytes c.args.names.now) (ap (seen (λ (all : Vec Data Global). all.items)) (sym (handed _ _ c.from_residual-in_err-add.ensures)))
    (done-starves (on_vault g.V.Vault) IsNoMemory (λ name. needed (string_bytes name)) (λ n. tt) c.args.names.now (drop (c.loop-name.name-index + 1) c.args.names.now) (c.loop-name.all.items ++ c.in_ok-content.content ∷ []) _ c.args.vault.now c.needed.new.vault
    (done-more-at (on_vault g.V.Vault) IsNoMemory (λ name. needed (string_bytes name)) (λ n. tt) c.args.names.now c.loop-name.name-index c.name-item.result c.loop-name.all.items c.args.vault.now c.loop-name.vault c.loop-name.invariant.0 c.in_ok-content.content c.needed.new.vault c.loop-name-test.true
    (followed-so (on_vault g.V.Vault) (ap needed (c.as_str.ensures.value ∙ ap string_bytes c.name-item.is)) refl c.in_ok-content.ensures))
    (ap plain_why c.in_err-add.ensures.refused))

pub loop-name-preserved : goal.loop-name-preserved
loop-name-preserved g c =
    let more = ap length c.in_ok-add.ensures.added in
    let one = length-append c.loop-name.all.items (c.in_ok-content.content ∷ []) in (
      subst (λ ys. IsDone (on_vault g.V.Vault) IsNoMemory (λ name. needed (string_bytes name)) c.args.names.now (drop (c.loop-name.name-index + 1) c.args.names.now) ys c.args.vault.now c.needed.new.vault) (sym c.in_ok-add.ensures.added)
          (done-more-at (on_vault g.V.Vault) IsNoMemory (λ name. needed (string_bytes name)) (λ n. tt) c.args.names.now c.loop-name.name-index c.name-item.result c.loop-name.all.items c.args.vault.now c.loop-name.vault c.loop-name.invariant.0 c.in_ok-content.content c.needed.new.vault c.loop-name-test.true
          (followed-so (on_vault g.V.Vault) (ap needed (c.as_str.ensures.value ∙ ap string_bytes c.name-item.is)) refl c.in_ok-content.ensures)),
      omega (arith, more, one, c.loop-name.invariant.1),
    )

pub returns-clause-follows : goal.returns-clause-follows
returns-clause-follows g c =
    followed-so (on_vault g.V.Vault) (each-map needed string_bytes c.args.names.now) refl
    (done-all (on_vault g.V.Vault) IsNoMemory (λ name. needed (string_bytes name)) (λ n. tt) c.args.names.now c.loop-name.all.items c.args.vault.now c.loop-name.vault
    (subst (λ rest. IsDone (on_vault g.V.Vault) IsNoMemory (λ name. needed (string_bytes name)) c.args.names.now rest c.loop-name.all.items c.args.vault.now c.loop-name.vault) (drop_all c.loop-name.name-index c.args.names.now c.loop-name-test.false) c.loop-name.invariant.0))
