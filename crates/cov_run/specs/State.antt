-- What loading keeps, and what one file adds to it.
--     State, state_of          what is loaded so far
--     Holds, IsFound           what a shelf told of a file
--     Finds                    a read of a file, and what was found
--     Adds, Settles            one module more, and what a file comes to
--     Grows                    the limits that are kept
use Rattle.std.specs.Prelude.{◌≡◌, ◌⊎◌, ℕ, suc, ◌+◌, ◌≤◌, ◌<◌, List, [], ◌∷◌, ◌++◌, length, Option, Some, None, Result, Err, IfOk, IsErrOf, encode_utf8_all}
use Rattle.cov_outside.specs.declared.shelf.ShelfError.{ShelfError}
use Rattle.cov_outside.specs.declared.shelf.ShelfError.TheVariants.{Failed}
use Rattle.cov_outside.specs.Reads.{IsTold}
use Rattle.py_syntax.specs.Names.{add_names}
use Rattle.py_syntax.specs.Tree.{Text, Stmts}
use Rattle.py_meaning.specs.Loading.{imported}
use Rattle.py_meaning.specs.Modules.{LoadedModule}
use Rattle.cov_why.specs.declared.why.Why.{Why}
use Rattle.cov_why.specs.declared.why.Why.TheVariants as why
use Rattle.cov_run.specs.declared.loading.File.{File}
use Rattle.cov_run.specs.declared.loading.File.TheVariants.{Bytes, TooLarge}
use Rattle.cov_run.specs.declared.loading.Loading.{Loading}
use Rattle.cov_run.specs.Reading.{tree, Reads}
use Rattle.cov_run.specs.Loading.{most_bytes, most_total, most_modules}
use Rattle.cov_run.specs.Refusals.{HasRoom}
use Rattle.cov_run.specs.View.{plain_sources}

-- the modules, the names that their imports name, each once, and the bytes of their files in all
pub record State : Type 0 where
  pub modules : List LoadedModule
  pub names : List Text
  pub bytes : ℕ

-- the state that a loading in memory keeps
abbrev pub state_of : Loading → State
state_of l = record { modules = plain_sources l.sources.items; names = l.names; bytes = l.bytes }

-- nothing is loaded yet
abbrev pub nothing : State
nothing = record { modules = []; names = []; bytes = 0 }

-- a file that is there has these bytes, or too many
abbrev pub Holds : Option (List ℕ) → File → Type 0
Holds content (Bytes v) = content ≡ Some v.items
Holds content TooLarge = (bytes : List ℕ) × (content ≡ Some bytes) × (most_bytes < length bytes)

-- it has few enough to be read
abbrev pub IsSmall : File → Type 0
IsSmall (Bytes v) = length v.items ≤ most_bytes
IsSmall TooLarge = Unit {0}

-- what a shelf tells of a file, which may not be there
abbrev pub IsFound : Option (List ℕ) → Option File → Type 0
IsFound content None = content ≡ None
IsFound content (Some file) = Holds content file

-- a file that was found has no more bytes than a file may have
abbrev pub IsSmallFound : Option File → Type 0
IsSmallFound None = Unit {0}
IsSmallFound (Some file) = IsSmall file

-- a module of this name is read from this file and added
pub record Adds (content : Option (List ℕ)) (name path : Text) (old new : State) : Type 0 where
  pub bytes : List ℕ
  pub body : Stmts
  pub room : HasRoom (length old.modules) old.bytes content bytes
  pub read : Reads bytes (tree body)
  pub modules : new.modules ≡ old.modules ++ record { name = name; path = path; body = body } ∷ []
  pub names : new.names ≡ add_names old.names (imported body)
  pub total : new.bytes ≡ old.bytes + length bytes

-- a file of this content adds the module of this name, or isn't there
abbrev pub Settles : Option (List ℕ) → Text → Text → State → State → Type 0
Settles content name path old new =
    ((content ≡ None) × (new ≡ old)) ⊎ Adds content name path old new

-- a file was read, and whatever content agrees with the answer is what was found
pub record Finds {H : Type 0}
    (moves : H → List ℕ → ℕ → Result (List ℕ) ShelfError → H → Type 0) (old : H) (path : Text)
    (found : Result (Option File) Why) (new : H) : Type 0 where
  pub answer : Result (List ℕ) ShelfError
  pub led : moves old (encode_utf8_all path) most_bytes answer new
  pub fits : IfOk answer (λ bytes. length bytes ≤ most_bytes)
  pub finds :
      (content : Option (List ℕ)) → IsTold content most_bytes answer
      → IfOk found (λ file. IsFound content file)
  pub failed : IsErrOf found why.ShelfFault → answer ≡ Err Failed

-- there is one module more, and the limits are kept
abbrev pub Grows : Loading → Loading → Type 0
Grows old new =
    (length new.sources.items ≡ suc (length old.sources.items))
    × (length old.sources.items < most_modules) × (new.bytes ≤ most_total)

-- the same, or nothing is new
abbrev pub GrowsOrStays : Loading → Loading → Type 0
GrowsOrStays old new =
    Grows old new
    ⊎ ((new.sources.items ≡ old.sources.items) × (new.names ≡ old.names)
    × (new.bytes ≡ old.bytes))
