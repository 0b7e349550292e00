-- What loading a source that is made up comes to.
--     module_alone, program_alone    the module of such a source, and its program
--     IsAlone, MadeAreAlone          it loads no other module
--     LoadsAlone, MadeAreLoaded      what loading a script comes to that is such a source
use Rattle.std.specs.Prelude.{◌≡◌, ◌⊎◌, ℕ, ◌≤◌, List, [], ◌∷◌, Some, Ok, Err}
use Rattle.cov_make.specs.Source.{source}
use Rattle.cov_run.specs.Loading.{Told}
use Rattle.cov_run.specs.Loads.{Loading, IsUnread, LoadsTo}
use Rattle.py_meaning.specs.Loading.{Program, imported, loaded}
use Rattle.py_meaning.specs.Modules.{LoadedModule}
use Rattle.py_syntax.specs.Functions.{functions}
use Rattle.py_syntax.specs.Tree.{Text}
use Rattle.cov_make_laws.specs.Trees.{made_tree}

-- the module of a source, of this name and path, and no other
abbrev pub module_alone : Text → Text → ℕ → ℕ → List LoadedModule
module_alone name path seed size =
    record { name = name; path = path; body = made_tree seed size } ∷ []

-- the program whose script is the one file, of this path, under this name
abbrev pub program_alone : Text → Text → ℕ → ℕ → Program
program_alone name path seed size =
    record { files = (path, made_tree seed size) ∷ []; script = path; name = name }

-- the source has no function and imports no module, so it is loaded alone
pub record IsAlone (seed size : ℕ) : Type 0 where
  pub no_function : functions (made_tree seed size) ≡ []
  pub no_import : imported (made_tree seed size) ≡ []
  pub alone : (name path : Text)
      → loaded (program_alone name path seed size) ≡ module_alone name path seed size

-- so it is of each seed and each size
abbrev pub MadeAreAlone : Type 0
MadeAreAlone = (seed size : ℕ) → IsAlone seed size

-- loading comes to these modules, where files are read on
abbrev pub ComesToAll : List LoadedModule → Loading → Type 0
ComesToAll ms (Ok ns) = ns ≡ ms
ComesToAll ms (Err r) = IsUnread r

-- Where the script is a source of a size that the command takes, loading comes to its module alone,
-- whatever else the files hold.
abbrev pub MadeAreLoaded : Type 0
MadeAreLoaded =
    (told : Told) (script name : Text) (seed size : ℕ) (loading : Loading) → size ≤ 16000
    → told.script ≡ Some (source seed size) → LoadsTo told script name loading
    → ComesToAll (module_alone name script seed size) loading
