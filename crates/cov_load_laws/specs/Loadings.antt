-- Loading comes to one thing by what was told of the files, want of memory and faults apart.
--     IsCutShort      files weren't read on
--     OneLoading      two loadings that weren't cut short say the same
--     NotStopped      a program that is loaded isn't refused
--     IsAll           loading comes to these modules, or was cut short
use Rattle.std.specs.Prelude.{◌≡◌, ◌⊎◌, List, Ok, Err}
use Rattle.py_meaning.specs.Modules.{LoadedModule}
use Rattle.py_syntax.specs.Tree.{Text}
use Rattle.cov_why.specs.Answers.{Refusal}
use Rattle.cov_run.specs.Loading.{Told, IsLoaded}
use Rattle.cov_run.specs.Loads.{IsUnread, Loading, LoadsTo}
use Rattle.cov_run.specs.Refusals.{IsStopped}

-- loading was cut short: by a fault of the shelf, or for want of memory
abbrev pub IsCutShort : Loading → Type 0
IsCutShort (Ok ms) = ⊥
IsCutShort (Err r) = IsUnread r

-- two loadings by the same files are the same program, or the same refusal
abbrev pub OneLoading : Type 0
OneLoading =
    (told : Told) (script name : Text) (l k : Loading) → ¬ (IsCutShort l) → ¬ (IsCutShort k)
    → LoadsTo told script name l → LoadsTo told script name k → l ≡ k

-- where the modules of a program are all loaded, no file refuses it
abbrev pub NotStopped : Type 0
NotStopped =
    (told : Told) (script name : Text) (ms : List LoadedModule) (r : Refusal)
    → IsLoaded told script name ms → IsStopped told script name r → ⊥

-- loading comes to these modules, or was cut short
abbrev pub IsAll : Told → Text → Text → List LoadedModule → Type 0
IsAll told script name ms =
    (l : Loading) → LoadsTo told script name l → (l ≡ Ok ms) ⊎ IsCutShort l
