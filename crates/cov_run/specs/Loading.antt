-- Which files a program is loaded from (Python Language Reference, 5, "The import system").
--     most_bytes, most_total, most_modules     the limits of files and modules
--     Told, told_by                            what was told of the files
--     file_bytes, content_at, has_file         the file of a module, in the script's folder
--     all_imported, is_wanted, wanted          the module that is loaded next
--     total_bytes                              how many bytes the files have in all
--     IsRead, AreLoaded, IsLoaded              the modules so far, and all of them
--     trees_of, program_of                     the program of the files that were read
use Rattle.std.specs.Prelude.{◌≡◌, ℕ, zero, suc, ◌+◌, ◌≤◌, ◌<◌, Bool, true, false, not, ◌&&◌, List, [], ◌∷◌, length, take, map, slice_get, Option, Some, None, codes, encode_utf8_all}
use Rattle.std.specs.List.{find, flat_map, sum_by}
use Rattle.cov_outside.specs.Files.{Files}
use Rattle.py_text.specs.Comparison.{is_same_text}
use Rattle.py_syntax.specs.Tree.{Text}
use Rattle.py_meaning.specs.Loading.{Files as Trees, Program, imported, folder_of, file_of, is_loaded}
use Rattle.py_meaning.specs.Modules.{LoadedModule}
use Rattle.cov_run.specs.Reading.{tree, Reads}

-- the most bytes of a file
abbrev pub most_bytes : ℕ
most_bytes = 1048576

-- the most bytes of all files of a program
abbrev pub most_total : ℕ
most_total = 16777216

-- the most modules of a program
abbrev pub most_modules : ℕ
most_modules = 256

-- ---- files

-- What was told of the files: what the script holds, and the files of the modules after it. The
-- script's file may be read once more for a module, and may hold something else by then.
pub record Told : Type 0 where
  pub script : Option (List ℕ)
  pub modules : Files

-- the bytes of the file with this name, where there is one
abbrev pub file_bytes : Files → Text → Option (List ℕ)
file_bytes files path = files (encode_utf8_all path)

-- files that stay as they are tell both
abbrev pub told_by : Files → Text → Told
told_by files script = record { script = file_bytes files script; modules = files }

-- what the file of the module of this number holds: the script has 0
abbrev pub content_at : Told → ℕ → Text → Option (List ℕ)
content_at told zero path = told.script
content_at told (suc i) path = file_bytes told.modules path

-- whether a file is there
abbrev pub is_there : Option (List ℕ) → Bool
is_there None = false
is_there (Some bytes) = true

-- whether a module of this name has a file in the folder; `sys` has none
abbrev pub has_file : Files → Text → Text → Bool
has_file files folder x =
    not (is_same_text x (codes "sys")) && is_there (file_bytes files (file_of folder x))

-- how many bytes a file has
abbrev pub size_of : Option (List ℕ) → ℕ
size_of None = 0
size_of (Some bytes) = length bytes

-- the bytes of the files of these modules, in all
abbrev pub total_bytes : Told → List LoadedModule → ℕ
total_bytes told [] = 0
total_bytes told (m ∷ ms) =
    size_of told.script + sum_by (λ n. size_of (file_bytes told.modules n.path)) ms

-- ---- modules

-- the names that the imports of the modules name, module by module in the order of the text
abbrev pub all_imported : List LoadedModule → List Text
all_imported = flat_map (λ m. imported m.body)

-- a name whose module is to be loaded: it has a file, and no module after the script has the name
abbrev pub is_wanted : Files → Text → List LoadedModule → Text → Bool
is_wanted files folder ms x = has_file files folder x && not (is_loaded ms x)

-- the module that is loaded next: the first that is imported and wanted
abbrev pub wanted : Files → Text → List LoadedModule → Option Text
wanted files folder ms = find (is_wanted files folder ms) (all_imported ms)

-- the module was read from its file, which holds this
pub record IsRead (content : Option (List ℕ)) (m : LoadedModule) : Type 0 where
  pub bytes : List ℕ
  pub there : content ≡ Some bytes
  pub small : length bytes ≤ most_bytes
  pub read : Reads bytes (tree m.body)

-- the modules so far: the script under its name, and then each time the module that was wanted
pub record AreLoaded (told : Told) (script name : Text) (ms : List LoadedModule) : Type 0 where
  pub read :
      (i : ℕ) (m : LoadedModule) → slice_get ms i ≡ Some m → IsRead (content_at told i m.path) m
  pub first : (m : LoadedModule) → slice_get ms 0 ≡ Some m → (m.name ≡ name) × (m.path ≡ script)
  pub next :
      (i : ℕ) (m : LoadedModule) → slice_get ms (suc i) ≡ Some m
      → (wanted told.modules (folder_of script) (take (suc i) ms) ≡ Some m.name)
      × (m.path ≡ file_of (folder_of script) m.name)
  pub few : length ms ≤ most_modules
  pub light : total_bytes told ms ≤ most_total

-- all modules of the program are loaded
pub record IsLoaded (told : Told) (script name : Text) (ms : List LoadedModule) : Type 0 where
  pub loaded : AreLoaded told script name ms
  pub some : 0 < length ms
  pub all : wanted told.modules (folder_of script) ms ≡ None

-- ---- programs

-- the trees of modules by the names of their files
abbrev pub trees_of : List LoadedModule → Trees
trees_of = map (λ m. (m.path, m.body))

-- the program that consists of the files of these modules
abbrev pub program_of : Text → Text → List LoadedModule → Program
program_of script name ms = record { files = trees_of ms; script = script; name = name }
