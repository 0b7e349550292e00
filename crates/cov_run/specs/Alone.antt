-- One source that is read alone, and texts that aren't read as Python.
--     PlainSource, source_of       a source with its text and tree, or its refusal by its reading
--     SourceComes, ReadsAlone      what the answer to a read of its file comes to, and the read
--     ReadsText, ChecksText        what a text and bytes in memory come to
use Rattle.std.specs.Prelude.{◌≡◌, ◌⊎◌, ℕ, suc, ◌<◌, List, Option, Some, None, Result, Ok, Err, string_bytes}
use Rattle.std.specs.Str.{IsUtf8, chars}
use Rattle.cov_outside.specs.Counts.{Rose}
use Rattle.cov_outside.specs.declared.shelf.ShelfError.{ShelfError}
use Rattle.cov_outside.specs.declared.shelf.ShelfError.TheVariants as shelf_error
use Rattle.py_token.specs.Source.{line_count, most_lines}
use Rattle.py_syntax.specs.Tree.{Stmts}
use Rattle.py_syntax.specs.View.{plain_module}
use Rattle.cov_why.specs.Answers.{Refusal, syntax, limit, no_source, shelf_fault, no_memory}
use Rattle.cov_why.specs.declared.why.SyntaxKind.TheVariants as kinds
use Rattle.cov_why.specs.declared.why.LimitKind.TheVariants as limits
use Rattle.cov_run.specs.declared.alone.SourceFile.{SourceFile}
use Rattle.cov_run.specs.Loading.{most_bytes}
use Rattle.cov_run.specs.Reading.{Reading, fault_line, AreShortText, Reads}
use Rattle.cov_run.specs.Reading as reading
use Rattle.cov_run.specs.Refusals.{refusal_of}

-- a source: its path, its text and its tree
pub record PlainSource : Type 0 where
  pub path : List ℕ
  pub text : List ℕ
  pub body : Stmts

-- a source in memory, under its path
abbrev pub plain_file : List ℕ → SourceFile → PlainSource
plain_file path s =
    record { path = path; text = string_bytes s.text; body = plain_module s.module }

-- a refusal that stands for none where memory was wanting
abbrev pub or_no_memory : Option Refusal → Refusal
or_no_memory None = no_memory
or_no_memory (Some refusal) = refusal

-- the source of these bytes, or its refusal, by what they are read as
abbrev pub source_of : List ℕ → List ℕ → Reading → Result PlainSource Refusal
source_of path bytes (reading.tree m) = Ok (record { path = path; text = bytes; body = m })
source_of path bytes (reading.no_text line) =
    Err (or_no_memory (refusal_of path (reading.no_text line)))
source_of path bytes (reading.long lines) =
    Err (or_no_memory (refusal_of path (reading.long lines)))
source_of path bytes (reading.stuck error) =
    Err (or_no_memory (refusal_of path (reading.stuck error)))
source_of path bytes (reading.no_tree error) =
    Err (or_no_memory (refusal_of path (reading.no_tree error)))
source_of path bytes (reading.ill_formed error) =
    Err (or_no_memory (refusal_of path (reading.ill_formed error)))
source_of path bytes reading.unread = Err no_memory

-- bytes are read, and come to this
abbrev pub ReadsText : List ℕ → List ℕ → Result PlainSource Refusal → Type 0
ReadsText path bytes came =
    (r : Reading) × Reads bytes r × (came ≡ source_of path bytes r)

-- What the answer to a read of the file comes to. Memory may be wanting to say that it isn't there.
abbrev pub SourceComes : List ℕ → Result (List ℕ) ShelfError → Result PlainSource Refusal → Type 0
SourceComes path (Ok bytes) came = ReadsText path bytes came
SourceComes path (Err shelf_error.Absent) came =
    (came ≡ Err (no_source path)) ⊎ (came ≡ Err no_memory)
SourceComes path (Err shelf_error.TooLarge) came =
    came ≡ Err (limit limits.FileBytes (suc most_bytes))
SourceComes path (Err shelf_error.Failed) came = came ≡ Err shelf_fault
SourceComes path (Err shelf_error.NoMemory) came = came ≡ Err no_memory

-- One read leads a shelf from one state to another, whose faults are counted, and its answer comes
-- to this.
pub record ReadsAlone {H : Type 0}
    (moves : H → List ℕ → ℕ → Result (List ℕ) ShelfError → H → Type 0) (faults : H → ℕ) (old : H)
    (path : List ℕ) (came : Result PlainSource Refusal) (new : H) : Type 0 where
  pub answer : Result (List ℕ) ShelfError
  pub led : moves old path most_bytes answer new
  pub failed : answer ≡ Err shelf_error.Failed → Rose (faults old) (faults new)
  pub comes : SourceComes path answer came

-- the checks of the bytes of a file that isn't read as Python: they are a text, of few enough lines
pub data ChecksText (name bytes : List ℕ) (came : Result (List ℕ) Refusal) : Type 0 where
  text : AreShortText bytes → came ≡ Ok bytes → ChecksText name bytes came
  no_text : ¬ (IsUtf8 bytes) → came ≡ Err (syntax name (fault_line bytes) kinds.BadCharacter)
      → ChecksText name bytes came
  long : IsUtf8 bytes → most_lines < line_count (chars bytes)
      → came ≡ Err (limit limits.Lines (line_count (chars bytes))) → ChecksText name bytes came
  starved : came ≡ Err no_memory → ChecksText name bytes came
