-- A source that is read alone follows its program.
use Rattle.std.proofs.Common.{◌≡◌, ◌≤◌, inl, inr, ℕ, List, refl, sym, subst, Result, Ok, Err}
use Rattle.cov_outside.specs.declared.shelf.Shelf.{Ghosts as ShelfOf}
use Rattle.cov_outside.specs.declared.shelf.ShelfError.{ShelfError}
use Rattle.cov_outside.specs.declared.shelf.ShelfError.TheVariants as shelf_error
use Rattle.py_parse.specs.declared.error.DepthKind.TheVariants as depth
use Rattle.py_parse.specs.declared.error.SyntaxError.TheVariants as syntax_error
use Rattle.py_scope.specs.declared.error.ScopeError.TheVariants as scope_error
use Rattle.py_token.specs.declared.error.TokenError.TheVariants as token_error
use Rattle.cov_programs.specs.Programs.{ask, bind}
use Rattle.cov_programs.specs.Objects.{Moves}
use Rattle.cov_programs.specs.Ends.{Follows}
use Rattle.cov_programs.proofs.Composing.{asks, gives, refuses, starves}
use Rattle.cov_run.specs.Alone.{ReadsAlone, ReadsText, SourceComes, source_of}
use Rattle.cov_run.specs.Alone as alone
use Rattle.cov_run.specs.Reading.{Reading, no_text, long, stuck, no_tree, ill_formed, tree, unread}
use Rattle.cov_why.specs.Answers.{Refusal, no_memory, no_source, PlainWhy, AnsweredAs}
use Rattle.cov_why.specs.declared.why.Why.{Why}
use Rattle.cov_why.proofs.Refusing.{refused-is}
use Rattle.cov_words.specs.Values.{Word}
use Rattle.cov_step.specs.Answers.{bytes_of, tree_of}
use Rattle.cov_step.specs.Calls.{Call, Answer, IsNoMemory, Step, checks, seen}
use Rattle.cov_step.specs.Objects.{on_shelf}
use Rattle.cov_step.specs.Phases.{source}
use Rattle.cov_reports.specs.Views.{read_source}

-- what a call came to, as the ending of a program
abbrev pub came_to : {A B : Type 0} → (A → B) → Result A Refusal → Result B PlainWhy
came_to f (Ok a) = Ok (f a)
came_to f (Err refusal) = Err (Err refusal)

-- an answer of the code, by what it came to
pub answered-so : {W A B X : Type 0} (moves : Moves Call Answer W) (p : Step B) (old new : W) (view : X → A) (f : A → B) (answer : Result X Why) (P : Result A Refusal → Type 0)
    → ((came : Result A Refusal) → P came → Follows moves IsNoMemory p old (came_to f came) new) → AnsweredAs view answer P → Follows moves IsNoMemory p old (seen (λ x. f (view x)) answer) new
answered-so moves p old new view f (Ok x) P told h = told (Ok (view x)) h
answered-so moves p old new view f (Err w) P told h =
    let s = refused-is w (λ r. P (Err r)) h in
    subst (λ (y : PlainWhy). Follows moves IsNoMemory p old (Err y) new) (sym s.1) (told (Err s.0) s.2)

module _ {H : Type 0} (shelf : ShelfOf H) where
  -- the same table of readings
  same-reading : (path : Word) (bytes : List ℕ) (reading : Reading) (now : H) → Follows (on_shelf shelf) IsNoMemory (tree_of path bytes reading) now (came_to read_source (source_of path bytes reading)) now
  same-reading path bytes (no_text line) now = refuses
  same-reading path bytes (long lines) now = refuses
  same-reading path bytes (stuck (token_error.BadCharacter line)) now = refuses
  same-reading path bytes (stuck (token_error.BadIndent line)) now = refuses
  same-reading path bytes (stuck (token_error.OpenString line)) now = refuses
  same-reading path bytes (stuck (token_error.OpenBracket line)) now = refuses
  same-reading path bytes (stuck (token_error.WideNumber line)) now = refuses
  same-reading path bytes (stuck token_error.NoMemory) now = refuses
  same-reading path bytes (no_tree (syntax_error.Unexpected line)) now = refuses
  same-reading path bytes (no_tree (syntax_error.TooDeep depth.Expressions line)) now = refuses
  same-reading path bytes (no_tree (syntax_error.TooDeep depth.Suites line)) now = refuses
  same-reading path bytes (no_tree syntax_error.NoMemory) now = refuses
  same-reading path bytes (ill_formed (scope_error.BreakOutside line)) now = refuses
  same-reading path bytes (ill_formed (scope_error.ReturnOutside line)) now = refuses
  same-reading path bytes (ill_formed (scope_error.GlobalAfterUse line)) now = refuses
  same-reading path bytes (ill_formed (scope_error.NestedFunction line)) now = refuses
  same-reading path bytes (ill_formed (scope_error.EarlyIrrefutable line)) now = refuses
  same-reading path bytes (ill_formed (scope_error.TwiceNamed line)) now = refuses
  same-reading path bytes (ill_formed scope_error.NoMemory) now = refuses
  same-reading path bytes (tree m) now = gives
  same-reading path bytes unread now = refuses

  read-text : (path : Word) (bytes : List ℕ) (came : Result alone.PlainSource Refusal) (now : H) → ReadsText path bytes came → Follows (on_shelf shelf) IsNoMemory (ask (checks bytes) (tree_of path bytes)) now (came_to read_source came) now
  read-text path bytes came now (reading, read, is) =
      asks reading now (record { read = read; same = refl })
      (subst (λ x. Follows (on_shelf shelf) IsNoMemory (tree_of path bytes reading) now (came_to read_source x) now) (sym is) (same-reading path bytes reading now))

  refused-file : (path : Word) (e : ShelfError) (r : Refusal) (came : Result alone.PlainSource Refusal) (now : H) → came ≡ Err r
      → Follows (on_shelf shelf) IsNoMemory (bind (bytes_of (no_source path) (Err e)) (λ bytes. ask (checks bytes) (tree_of path bytes))) now (Err (Err r)) now
      → Follows (on_shelf shelf) IsNoMemory (bind (bytes_of (no_source path) (Err e)) (λ bytes. ask (checks bytes) (tree_of path bytes))) now (came_to read_source came) now
  refused-file path e r came now is f =
      subst (λ x. Follows (on_shelf shelf) IsNoMemory (bind (bytes_of (no_source path) (Err e)) (λ bytes. ask (checks bytes) (tree_of path bytes))) now (came_to read_source x) now) (sym is) f

  read-file : (path : Word) (answer : Result (List ℕ) ShelfError) (came : Result alone.PlainSource Refusal) (now : H) → SourceComes path answer came
      → Follows (on_shelf shelf) IsNoMemory (bind (bytes_of (no_source path) answer) (λ bytes. ask (checks bytes) (tree_of path bytes))) now (came_to read_source came) now
  read-file path (Ok bytes) came now comes = read-text path bytes came now comes
  read-file path (Err shelf_error.Absent) came now (inl is) = refused-file path shelf_error.Absent (no_source path) came now is refuses
  read-file path (Err shelf_error.Absent) came now (inr is) = refused-file path shelf_error.Absent no_memory came now is (starves tt refl)
  read-file path (Err shelf_error.TooLarge) came now comes = refused-file path shelf_error.TooLarge _ came now comes refuses
  read-file path (Err shelf_error.Failed) came now comes = refused-file path shelf_error.Failed _ came now comes refuses
  read-file path (Err shelf_error.NoMemory) came now comes = refused-file path shelf_error.NoMemory _ came now comes refuses

  -- the file is read, and then what its bytes are
  pub read-alone : (path : Word) (came : Result alone.PlainSource Refusal) (old new : H) → shelf.faults old ≤ shelf.faults new → ReadsAlone shelf.reads shelf.faults old path came new
      → Follows (on_shelf shelf) IsNoMemory (source path) old (came_to read_source came) new
  read-alone path came old new count r = asks r.answer new (record { moved = r.led; count = count; failed = r.failed }) (read-file path r.answer came new r.comes)
