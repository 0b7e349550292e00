-- An answer that says nothing of the files is want of memory or a fault of the shelf.
use Rattle.std.proofs.Common.{◌≡◌, ◌⊎◌, inl, inr, ⊎_elim, List, Result, Ok, Err, refl, sym, ap, ◌∙◌}
use Rattle.std.specs.Prelude.{IfErr}
use Rattle.py_meaning.specs.Modules.{LoadedModule}
use Rattle.py_syntax.specs.Tree.{Text}
use Rattle.cov_why.specs.Answers.{Refusal, shelf_fault, no_memory, plain_why, AnsweredAs}
use Rattle.cov_why.specs.declared.why.Why.{Why}
use Rattle.cov_why.specs.declared.why.Why.TheVariants as why
use Rattle.cov_why.proofs.Refusing.{refused-is}
use Rattle.cov_run.specs.declared.programs.Loaded.{Loaded}
use Rattle.cov_run.specs.Loading.{Told, IsLoaded}
use Rattle.cov_run.specs.Loads.{IsUnread, faulted, starved, Loading, LoadsTo, loaded_modules}
use Rattle.cov_load_laws.specs.Answers.{IsProgramOf, IsStarvedOrFailed}
use Rattle.cov_load_laws.specs.Loadings.{IsCutShort}
use Rattle.cov_load_laws.specs.Texts.{OneText}
use Rattle.cov_load_laws.proofs.Loadings.{is-all}

-- ---- an answer that refuses

starved-why : (w : Why) → plain_why w ≡ Err no_memory → w ≡ why.NoMemory
starved-why why.NoMemory e = refl
starved-why w e = absurd (cc)

failed-why : (w : Why) → plain_why w ≡ Err shelf_fault → w ≡ why.ShelfFault
failed-why why.ShelfFault e = refl
failed-why w e = absurd (cc)

unread-why : (w : Why) (r : Refusal) → plain_why w ≡ Err r → IsUnread r → IsStarvedOrFailed w
unread-why w r e faulted = inr (failed-why w e)
unread-why w r e starved = inl (starved-why w e)

ok-is : (ms ns : List LoadedModule) → ◌≡◌ {A = Loading} (Ok ms) (Ok ns) → ms ≡ ns
ok-is ms ns e = cc

err-no-ok : (r : Refusal) (ms : List LoadedModule) → ◌≡◌ {A = Loading} (Err r) (Ok ms) → ⊥
err-no-ok r ms e = cc

-- ---- an answer of loading

module _ (one : OneText) where
  pub answers-program :
      (told : Told) (script name : Text) (ms : List LoadedModule) (result : Result Loaded Why)
      → IsLoaded told script name ms
      → AnsweredAs loaded_modules result (LoadsTo told script name) → IsProgramOf ms result
  answers-program told script name ms (Ok l) h k =
      let all = is-all one told script name ms h (Ok (loaded_modules l)) k in
      ⊎_elim (λ e. ok-is (loaded_modules l) ms e) (λ u. absurd u) all
  answers-program told script name ms (Err w) h k =
      let r = refused-is w (λ x. LoadsTo told script name (Err x)) k in
      let all = is-all one told script name ms h (Err r.0) r.2 in
      ⊎_elim (λ e. absurd (err-no-ok r.0 ms e)) (λ u. unread-why w r.0 r.1 u) all

pub program-if-err :
    (ms : List LoadedModule) (result : Result Loaded Why) → IsProgramOf ms result
    → IfErr result (λ w. IsStarvedOrFailed w)
program-if-err ms (Ok l) h = tt
program-if-err ms (Err w) h = h
