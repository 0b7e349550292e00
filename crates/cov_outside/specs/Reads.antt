-- What a shelf answers to reads and puts, and reads one after another.
--     IsTold                    what a file's content says of the answer to a read
--     IsPut                     what the files are after a put
--     bytes_read, refusal_of    the answers of the code, seen plainly
--     Read, Reads               reads that lead from one state to another
use Rattle.std.specs.Prelude.{◌≡◌, ℕ, ◌<◌, ◌≤◌, List, [], ◌∷◌, length, Option, Some, None, Result, Ok, Err, Vec}
use Rattle.std.specs.declared.alloc.Global.{Global}
use Rattle.cov_outside.specs.Files.{Files, with_file}
use Rattle.cov_outside.specs.declared.shelf.ShelfError.{ShelfError}
use Rattle.cov_outside.specs.declared.shelf.ShelfError.TheVariants.{Absent, TooLarge, Failed, NoMemory}

-- A file of this content, or none, is read with at most so many bytes. Its bytes are answered, or
-- that it isn't there, or that it has more; a fault and want of memory say nothing of it.
abbrev pub IsTold : Option (List ℕ) → ℕ → Result (List ℕ) ShelfError → Type 0
IsTold content most (Ok bytes) = (content ≡ Some bytes) × (length bytes ≤ most)
IsTold content most (Err Absent) = content ≡ None
IsTold content most (Err TooLarge) =
    (bytes : List ℕ) × (content ≡ Some bytes) × (most < length bytes)
IsTold content most (Err Failed) = Unit {0}
IsTold content most (Err NoMemory) = Unit {0}

-- a put that isn't refused sets the name, and a refused one changes nothing
abbrev pub IsPut : Files → List ℕ → List ℕ → Option ShelfError → Files → Type 0
IsPut old name bytes None new = new ≡ with_file name bytes old
IsPut old name bytes (Some error) new = new ≡ old

-- the answer to a read, by its bytes
abbrev pub bytes_read : Result (Vec ℕ Global) ShelfError → Result (List ℕ) ShelfError
bytes_read (Ok bytes) = Ok bytes.items
bytes_read (Err error) = Err error

-- why a call was refused, where it was
abbrev pub refusal_of : {A : Type 0} → Result A ShelfError → Option ShelfError
refusal_of (Ok a) = None
refusal_of (Err error) = Some error

-- one read: the name, the most bytes that were asked for, and the answer
pub record Read : Type 0 where
  pub name : List ℕ
  pub most : ℕ
  pub answer : Result (List ℕ) ShelfError

-- these reads, one after another, lead a shelf from the old state to the new one
abbrev pub Reads : {H : Type 0} → (H → List ℕ → ℕ → Result (List ℕ) ShelfError → H → Type 0)
    → H → List Read → H → Type 0
Reads moves old [] new = new ≡ old
Reads {H} moves old (r ∷ rs) new =
    (mid : H) × moves old r.name r.most r.answer mid × Reads moves mid rs new
