-- What the reads of any shelf come to, also of one that tells nothing.
--     OneLoads        reads that were answered alike come to one thing
--     LoadsWhole      where contents that agree with the answers can be loaded, they are
use Rattle.std.specs.Prelude.{◌≡◌, ◌⊎◌, ℕ, List, Result, Ok}
use Rattle.cov_outside.specs.declared.shelf.ShelfError.{ShelfError}
use Rattle.py_meaning.specs.Modules.{LoadedModule}
use Rattle.py_syntax.specs.Tree.{Text}
use Rattle.cov_run.specs.Asking.{Agrees}
use Rattle.cov_run.specs.Loading.{Told, IsLoaded}
use Rattle.cov_run.specs.Loads.{Loading, Loads}
use Rattle.cov_load_laws.specs.Loadings.{IsCutShort}

-- two loadings whose reads were answered alike say the same, where neither was cut short
abbrev pub OneLoads : {H : Type 0}
    → (H → List ℕ → ℕ → Result (List ℕ) ShelfError → H → Type 0) → Type 0
OneLoads {H = H} moves =
    (old new other last : H) (script name : Text) (l k : Loading)
    → (a : Loads moves old script name l new) → (b : Loads moves other script name k last)
    → a.made ≡ b.made → ¬ (IsCutShort l) → ¬ (IsCutShort k) → l ≡ k

-- where contents that agree with the answers can be loaded, loading comes to them or was cut short
abbrev pub LoadsWhole : {H : Type 0}
    → (H → List ℕ → ℕ → Result (List ℕ) ShelfError → H → Type 0) → Type 0
LoadsWhole {H = H} moves =
    (old new : H) (script name : Text) (l : Loading) (a : Loads moves old script name l new)
    (told : Told) (ms : List LoadedModule) → Agrees told a.made → IsLoaded told script name ms
    → (l ≡ Ok ms) ⊎ IsCutShort l
