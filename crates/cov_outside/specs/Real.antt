-- What the real objects are made for.
use Rattle.std.specs.Prelude.{◌≡◌, ◌≢◌, ℕ, ◌≤◌, List, length, Option, Some, Result, Err, IfOk, string_bytes}
use Rattle.cov_outside.specs.Counts.{Rose}
use Rattle.cov_outside.specs.declared.shelf.ShelfError.{ShelfError}
use Rattle.cov_outside.specs.declared.shelf.ShelfError.TheVariants.{Absent, TooLarge, Failed}
use Rattle.cov_outside.specs.declared.folder.FolderShelf.{FolderShelf}
use Rattle.cov_outside.specs.declared.standard.StdSink.{StdSink}
use Rattle.cov_outside.specs.declared.standard.Stream.{Stream}

-- the name of its folder
abbrev pub folder_of : FolderShelf → List ℕ
folder_of shelf = string_bytes shelf.folder

-- the stream that it writes to
abbrev pub stream_of : StdSink → Stream
stream_of sink = sink.stream

-- a call of a folder keeps its name, and a call that fails is counted
pub record CountsFault (failed : Type 0) (old new : FolderShelf) : Type 0 where
  pub same : folder_of new ≡ folder_of old
  pub counted : failed → Rose old.faults new.faults

-- a read answers no more bytes than were asked for
pub record ReadsFolder (old : FolderShelf) (name : List ℕ) (most : ℕ)
    (answer : Result (List ℕ) ShelfError) (new : FolderShelf) : Type 0 where
  pub fits : IfOk answer (λ bytes. length bytes ≤ most)
  pub call : CountsFault (answer ≡ Err Failed) old new

-- a put answers nothing that only a read can tell
pub record PutsFolder (old : FolderShelf) (name bytes : List ℕ) (refusal : Option ShelfError)
    (new : FolderShelf) : Type 0 where
  pub not_absent : refusal ≢ Some Absent
  pub not_too_large : refusal ≢ Some TooLarge
  pub call : CountsFault (refusal ≡ Some Failed) old new
