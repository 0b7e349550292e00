-- What reads come to is said of each content that agrees with them, and there is one.
use Rattle.std.proofs.Common.{◌≡◌, ◌⊎◌, inl, inr, ⊎_elim, ℕ, List, Ok, Err, sym, subst}
use Rattle.py_meaning.specs.Modules.{LoadedModule}
use Rattle.py_syntax.specs.Tree.{Text}
use Rattle.cov_run.specs.Asking.{Agrees, names_read}
use Rattle.cov_run.specs.Loading.{Told, IsLoaded}
use Rattle.cov_run.specs.Loads.{Loading, Loads, LoadsTo, ComesTo}
use Rattle.cov_run.proofs.Telling.{Moves}
use Rattle.cov_load_laws.specs.Loadings.{IsCutShort}
use Rattle.cov_load_laws.specs.Texts.{OneText}
use Rattle.cov_load_laws.proofs.Loadings.{one-loading, is-all}

comes-to :
    (told : Told) (script name : Text) (names : List (List ℕ)) (l : Loading)
    → ComesTo told script name names l → LoadsTo told script name l
comes-to told script name names (Ok ms) h = h.0
comes-to told script name names (Err r) h = ⊎_elim (λ s. inl s.stop) (λ b. inr b.unread) h

-- the reads of a shelf, and what agrees with their answers
module _ (one : OneText) {H : Type 0} (moves : Moves H) where
  loads-to :
      (old new : H) (script name : Text) (l : Loading) (a : Loads moves old script name l new)
      (told : Told) → Agrees told a.made → LoadsTo told script name l
  loads-to old new script name l a told agrees =
      comes-to told script name (names_read a.made) l (a.comes told agrees)

  pub one-loads :
      (old new other last : H) (script name : Text) (l k : Loading)
      → (a : Loads moves old script name l new) → (b : Loads moves other script name k last)
      → a.made ≡ b.made → ¬ (IsCutShort l) → ¬ (IsCutShort k) → l ≡ k
  one-loads old new other last script name l k a b e p q =
      let told = b.some.0 in
      let agrees : Agrees told a.made = subst (Agrees told) (sym e) b.some.1 in
      one-loading one told script name l k p q (loads-to old new script name l a told agrees)
      (loads-to other last script name k b told b.some.1)

  pub loads-whole :
      (old new : H) (script name : Text) (l : Loading) (a : Loads moves old script name l new)
      (told : Told) (ms : List LoadedModule) → Agrees told a.made → IsLoaded told script name ms
      → (l ≡ Ok ms) ⊎ IsCutShort l
  loads-whole old new script name l a told ms agrees h =
      is-all one told script name ms h l (loads-to old new script name l a told agrees)
