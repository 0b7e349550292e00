-- Which programs are loaded.
--     HasSource                   a file is there and can be read
--     AreChained, CanLoad         the premises: sources that can be read, within all limits
--     Completes, IsNeeded         they are enough, and no more than is needed
use Rattle.std.specs.Prelude.{◌≡◌, ℕ, suc, ◌≤◌, ◌<◌, List, length, take, slice_get, Option, Some}
use Rattle.py_meaning.specs.Loading.{folder_of, file_of}
use Rattle.py_meaning.specs.Modules.{LoadedModule}
use Rattle.py_syntax.specs.Tree.{Text, Stmts}
use Rattle.cov_run.specs.Reading.{tree, Reads}
use Rattle.cov_run.specs.Loading.{most_bytes, most_total, most_modules, Told, file_bytes, content_at, total_bytes, wanted, IsRead, IsLoaded}
use Rattle.cov_load_laws.specs.Loadings.{IsAll}

-- a file is there, isn't too large, and has a tree within the limits and without a fault of scope
pub record HasSource (content : Option (List ℕ)) : Type 0 where
  pub bytes : List ℕ
  pub body : Stmts
  pub there : content ≡ Some bytes
  pub small : length bytes ≤ most_bytes
  pub read : Reads bytes (tree body)

-- modules in the order of loading, however many and however large
pub record AreChained (told : Told) (script name : Text) (ms : List LoadedModule) : Type 0 where
  pub read :
      (i : ℕ) (m : LoadedModule) → slice_get ms i ≡ Some m → IsRead (content_at told i m.path) m
  pub first : (m : LoadedModule) → slice_get ms 0 ≡ Some m → (m.name ≡ name) × (m.path ≡ script)
  pub next :
      (i : ℕ) (m : LoadedModule) → slice_get ms (suc i) ≡ Some m
      → (wanted told.modules (folder_of script) (take (suc i) ms) ≡ Some m.name)
      × (m.path ≡ file_of (folder_of script) m.name)

-- The script is there and can be read, and so can each file that is wanted; there are few enough
-- modules, with few enough bytes in all.
pub record CanLoad (told : Told) (script name : Text) : Type 0 where
  pub begins : HasSource told.script
  pub goes_on :
      (ms : List LoadedModule) (x : Text) → AreChained told script name ms → 0 < length ms
      → wanted told.modules (folder_of script) ms ≡ Some x
      → HasSource (file_bytes told.modules (file_of (folder_of script) x))
  pub few : (ms : List LoadedModule) → AreChained told script name ms → length ms ≤ most_modules
  pub light :
      (ms : List LoadedModule) → AreChained told script name ms → total_bytes told ms ≤ most_total

-- then the program is loaded, and loading comes to it or was cut short
abbrev pub Completes : Type 0
Completes =
    (told : Told) (script name : Text) → CanLoad told script name
    → (ms : List LoadedModule) × IsLoaded told script name ms × IsAll told script name ms

-- the premises hold of each program that is loaded
abbrev pub IsNeeded : Type 0
IsNeeded =
    (told : Told) (script name : Text) (ms : List LoadedModule) → IsLoaded told script name ms
    → CanLoad told script name
