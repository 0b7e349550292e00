-- What loading a program comes to.
--     loaded_modules               the modules of programs in memory, each beside its tree
--     Loading, IsUnread            what it comes to
--     LoadsTo, ComesTo             what was told of the files says the same, and which are read
--     Loads                        reads of a shelf, and what they come to
--     IsAskedNext, EndsFailed      a read that failed, of the file that is asked for next
--     EndsWith                     the answer that loading ends with
--     IsCompiled                   the code is faithful to the trees
use Rattle.std.specs.Prelude.{◌≡◌, ◌⊎◌, ℕ, ◌≤◌, ◌<◌, true, List, [], ◌∷◌, ◌++◌, All, length, Some, Result, Ok, Err, string_bytes, encode_utf8_all}
use Rattle.std.specs.Str.{chars}
use Rattle.cov_outside.specs.declared.shelf.ShelfError.{ShelfError}
use Rattle.cov_outside.specs.declared.shelf.ShelfError.TheVariants.{Failed}
use Rattle.cov_outside.specs.Prefixes.{IsPrefix}
use Rattle.cov_outside.specs.Reads.{Read, Reads}
use Rattle.py_code.specs.declared.code.Program.{Program}
use Rattle.py_code.specs.Loaded.{modules_of}
use Rattle.py_compile.specs.ProgramRuns.{AreFaithful}
use Rattle.py_meaning.specs.Modules.{LoadedModule}
use Rattle.py_syntax.specs.declared.stmt.Module.{Module}
use Rattle.py_syntax.specs.Tree.{Text}
use Rattle.py_syntax.specs.View.{plain_module}
use Rattle.py_compile_laws.specs.Traces.{AreWellFormed}
use Rattle.cov_why.specs.Answers.{Refusal, shelf_fault, no_memory, RefusedAs}
use Rattle.cov_why.specs.declared.why.Why.{Why}
use Rattle.cov_why.specs.declared.why.Why.TheVariants as why
use Rattle.cov_run.specs.declared.programs.Loaded.{Loaded}
use Rattle.cov_run.specs.Asking.{Agrees, AreUpTo, asked, names_read}
use Rattle.cov_run.specs.Loading.{Told, AreLoaded, IsLoaded, content_at, is_there, most_bytes, most_modules}
use Rattle.cov_run.specs.Refusals.{IsStopped, next_file}

-- ---- programs in memory

-- a program beside its tree
abbrev pub loaded_module : Program → Module → LoadedModule
loaded_module p m = record {
  name = chars (string_bytes p.name);
  path = chars (string_bytes p.path);
  body = plain_module m;
}

-- programs beside their trees
abbrev pub loaded_pairs : List Program → List Module → List LoadedModule
loaded_pairs [] ms = []
loaded_pairs (p ∷ ps) [] = []
loaded_pairs (p ∷ ps) (m ∷ ms) = loaded_module p m ∷ loaded_pairs ps ms

-- the modules of a loaded program
abbrev pub loaded_modules : Loaded → List LoadedModule
loaded_modules l = loaded_pairs l.programs.modules.items l.modules.items

-- ---- what loading comes to

-- the modules of a program, or why it is refused
abbrev pub Loading : Type 0
Loading = Result (List LoadedModule) Refusal

-- a refusal where files weren't read on: a fault of the shelf, or want of memory
pub data IsUnread : Refusal → Type 0 where
  faulted : IsUnread shelf_fault
  starved : IsUnread no_memory

-- By what was told of the files, loading comes to this. A refusal comes with the file that is
-- refused, but where files weren't read on.
abbrev pub LoadsTo : Told → Text → Text → Loading → Type 0
LoadsTo told script name (Ok ms) = IsLoaded told script name ms
LoadsTo told script name (Err r) = IsStopped told script name r ⊎ IsUnread r

-- a program is refused, and these files were read up to the one that is refused
pub record StopsAt (told : Told) (script name : Text) (names : List (List ℕ)) (r : Refusal)
    : Type 0 where
  pub stop : IsStopped told script name r
  pub up_to : AreUpTo (encode_utf8_all stop.path) names (asked script stop.ms)

-- files aren't read on: these are the first of those that modules ask for
pub record BreaksOff (told : Told) (script name : Text) (names : List (List ℕ)) (r : Refusal)
    : Type 0 where
  pub unread : IsUnread r
  pub ms : List LoadedModule
  pub loaded : AreLoaded told script name ms
  pub first : IsPrefix names (asked script ms)

-- the same, with the files that are read: those of a program are all that its modules ask for
abbrev pub ComesTo : Told → Text → Text → List (List ℕ) → Loading → Type 0
ComesTo told script name names (Ok ms) =
    IsLoaded told script name ms × (names ≡ asked script ms)
ComesTo told script name names (Err r) =
    StopsAt told script name names r ⊎ BreaksOff told script name names r

-- Reads lead a shelf from one state to another. Whatever contents agree with their answers, loading
-- comes to this; and there are such contents.
pub record Loads {H : Type 0}
    (moves : H → List ℕ → ℕ → Result (List ℕ) ShelfError → H → Type 0) (old : H)
    (script name : Text) (loading : Loading) (new : H) : Type 0 where
  pub made : List Read
  pub led : Reads moves old made new
  pub limit : All (λ r. r.most ≡ most_bytes) made
  pub comes :
      (told : Told) → Agrees told made → ComesTo told script name (names_read made) loading
  pub some : (told : Told) × Agrees told made

-- After the files of these names were read, this one is asked for next; and where it is there, its
-- module is the one that is loaded next.
pub record IsAskedNext (told : Told) (script name : Text) (names : List (List ℕ)) (path : Text)
    : Type 0 where
  pub ms : List LoadedModule
  pub loaded : AreLoaded told script name ms
  pub asked : IsPrefix (names ++ encode_utf8_all path ∷ []) (asked script ms)
  pub wanted :
      is_there (content_at told (length ms) path) ≡ true
      → next_file told.modules script ms ≡ Some path

-- Reads lead a shelf from one state to another, and one more failed. Whatever contents agree with
-- the answers before it, it was of the file that is asked for next; and there are such contents.
pub record EndsFailed {H : Type 0}
    (moves : H → List ℕ → ℕ → Result (List ℕ) ShelfError → H → Type 0) (old : H)
    (script name : Text) (new : H) : Type 0 where
  pub made : List Read
  pub mid : H
  pub led : Reads moves old made mid
  pub limit : All (λ r. r.most ≡ most_bytes) made
  pub path : Text
  pub fails : moves mid (encode_utf8_all path) most_bytes (Err Failed) new
  pub next : (told : Told) → Agrees told made → IsAskedNext told script name (names_read made) path
  pub some : (told : Told) × Agrees told made

-- loading ends with this answer: a fault of the shelf only where the read that was asked for next
-- failed
pub record EndsWith {H : Type 0}
    (moves : H → List ℕ → ℕ → Result (List ℕ) ShelfError → H → Type 0) (old : H)
    (script name : Text) (w : Why) (new : H) : Type 0 where
  pub loads : RefusedAs w (λ r. Loads moves old script name (Err r) new)
  pub failed : w ≡ why.ShelfFault → EndsFailed moves old script name new

-- ---- the code

-- the text of each program's path is its module's path
abbrev pub HavePaths : List Program → List LoadedModule → Type 0
HavePaths [] [] = Unit {0}
HavePaths [] (m ∷ ms) = ⊥
HavePaths (p ∷ ps) [] = ⊥
HavePaths (p ∷ ps) (m ∷ ms) = (string_bytes p.path ≡ encode_utf8_all m.path) × HavePaths ps ms

-- each program is faithful to its tree, and no tree has a fault of scope
pub record IsCompiled (l : Loaded) : Type 0 where
  pub faithful : AreFaithful (modules_of l.programs) (loaded_modules l)
  pub well_formed : AreWellFormed (loaded_modules l)
  pub some : 0 < length (modules_of l.programs)
  pub few : length (modules_of l.programs) ≤ most_modules
  pub beside : length l.modules.items ≡ length l.programs.modules.items
  pub paths : HavePaths l.programs.modules.items (loaded_modules l)
