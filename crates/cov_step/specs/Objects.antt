-- What each object answers: a call, its answer and the states are as the clauses of a function say.
--     CheckOf, on_grammar                      what words and sources are
--     ReadOf, PutOf, OpenOf, on_shelf          a shelf
--     ListOf, LoadOf, SaveOf, RemoveOf, on_vault    a vault
--     MakeOf, on_maker                         a maker of patterns
--     IsWritten, WriteOf, on_sink               an output
--     Told, Saying, SayOf, on_err              `err`
use Rattle.std.specs.Prelude.{◌≡◌, ◌≢◌, ℕ, ◌≤◌, List, ◌++◌, Option, Some, None, Result, Err}
use Rattle.std.specs.Str.{chars}
use Rattle.cov_outside.specs.Counts.{Rose}
use Rattle.cov_outside.specs.Prefixes.{GainsPrefix}
use Rattle.cov_outside.specs.declared.shelf.Shelf.{Ghosts as ShelfOf}
use Rattle.cov_outside.specs.declared.shelf.ShelfError.{ShelfError}
use Rattle.cov_outside.specs.declared.shelf.ShelfError.TheVariants as shelf_error
use Rattle.cov_outside.specs.declared.sink.Sink.{Ghosts as SinkOf}
use Rattle.cov_outside.specs.declared.sink.SinkError.{SinkError}
use Rattle.cov_outside.specs.declared.sink.SinkError.TheVariants as sink_error
use Rattle.py_meaning.specs.Modules.{LoadedModule}
use Rattle.py_syntax.specs.Tree.{Text}
use Rattle.cov_data.specs.DataSet.{DataSet}
use Rattle.cov_exclude.specs.Refusals.{IsCauseOf, FoundLarge}
use Rattle.cov_exclude.specs.declared.maker.Maker.{Ghosts as MakerOf}
use Rattle.cov_exclude.specs.declared.patterns.PatternError.{PatternError}
use Rattle.cov_programs.specs.Objects.{Moves}
use Rattle.cov_run.specs.Loading.{told_by}
use Rattle.cov_run.specs.Loads.{EndsFailed, Loads, LoadsTo}
use Rattle.cov_run.specs.Reading.{Reading, Reads}
use Rattle.cov_vault.specs.declared.vault.Vault.{Ghosts as VaultOf}
use Rattle.cov_vault.specs.declared.vault.VaultError.{VaultError}
use Rattle.cov_vault.specs.declared.vault.VaultError.TheVariants as vault_error
use Rattle.cov_why.specs.Answers.{Refusal, shelf_fault}
use Rattle.cov_words.specs.Values.{Word}
use Rattle.cov_step.specs.Calls.{Call, spells, checks, reads, puts, opens, lists, loads, saves, removes, makes, writes, crosses, measures, tries, tests, selects, judges, says, Answer}
use Rattle.cov_step.specs.Promises.{Object, the_shelf, blame_of, by_error}
use Rattle.cov_step.specs.Step.{IsSpelled}

-- ---- what words and sources are

-- the bytes of a source are read so, and nothing changes
pub record CheckOf {W : Type 0} (old : W) (bytes : List ℕ) (reading : Reading) (new : W)
    : Type 0 where
  pub read : Reads bytes reading
  pub same : new ≡ old

-- no object is asked: words and sources are what they are
abbrev pub on_grammar : Moves Call Answer (Unit {0})
on_grammar old (spells words) answer new = IsSpelled words answer
on_grammar old (checks bytes) reading new = CheckOf old bytes reading new
on_grammar old (reads name most) answer new = ⊥
on_grammar old (puts name bytes) refusal new = ⊥
on_grammar old (opens name script) answer new = ⊥
on_grammar old lists answer new = ⊥
on_grammar old (loads name) answer new = ⊥
on_grammar old (saves name content) refusal new = ⊥
on_grammar old (removes name) refusal new = ⊥
on_grammar old (makes texts) refusal new = ⊥
on_grammar old (writes bytes) refusal new = ⊥
on_grammar old (crosses modules words budget) answer new = ⊥
on_grammar old (measures asked modules hook) answer new = ⊥
on_grammar old (tries modules words budget) answer new = ⊥
on_grammar old (tests asked modules) answer new = ⊥
on_grammar old (selects budget before after) answer new = ⊥
on_grammar old (judges budget modules) answer new = ⊥
on_grammar old (says text) answer new = ⊥

-- ---- a shelf

-- A read. What a shelf that tells its files answers follows from its own law.
pub record ReadOf {H : Type 0} (shelf : ShelfOf H) (old : H) (name : Word) (most : ℕ)
    (answer : Result (List ℕ) ShelfError) (new : H) : Type 0 where
  pub moved : shelf.reads old name most answer new
  pub count : shelf.faults old ≤ shelf.faults new
  pub failed : answer ≡ Err shelf_error.Failed → Rose (shelf.faults old) (shelf.faults new)

-- a put
pub record PutOf {H : Type 0} (shelf : ShelfOf H) (old : H) (name : Word) (bytes : List ℕ)
    (refusal : Option ShelfError) (new : H) : Type 0 where
  pub moved : shelf.puts old name bytes refusal new
  pub not_absent : refusal ≢ Some shelf_error.Absent
  pub not_too_large : refusal ≢ Some shelf_error.TooLarge
  pub count : shelf.faults old ≤ shelf.faults new
  pub failed : refusal ≡ Some shelf_error.Failed → Rose (shelf.faults old) (shelf.faults new)

-- loading of a script, whose module has this name
pub record OpenOf {H : Type 0} (shelf : ShelfOf H) (old : H) (name : Text) (script : Word)
    (answer : Result (List LoadedModule) Refusal) (new : H) : Type 0 where
  pub moved : Loads shelf.reads old (chars script) name answer new
  pub told :
      shelf.tells
      → LoadsTo (told_by (shelf.files old) (chars script)) (chars script) name answer
  pub kept : shelf.tells → shelf.files new ≡ shelf.files old
  pub blames : (o : Object) → by_error blame_of answer ≡ Some o → o ≡ the_shelf
  pub ends :
      answer ≡ Err shelf_fault → EndsFailed shelf.reads old (chars script) name new
  pub count : shelf.faults old ≤ shelf.faults new
  pub failed : answer ≡ Err shelf_fault → Rose (shelf.faults old) (shelf.faults new)

-- a shelf, and what its bytes are read as
abbrev pub on_shelf : {H : Type 0} → ShelfOf H → Moves Call Answer H
on_shelf shelf old (spells words) answer new = ⊥
on_shelf shelf old (checks bytes) reading new = CheckOf old bytes reading new
on_shelf shelf old (reads name most) answer new = ReadOf shelf old name most answer new
on_shelf shelf old (puts name bytes) refusal new = PutOf shelf old name bytes refusal new
on_shelf shelf old (opens name script) answer new = OpenOf shelf old name script answer new
on_shelf shelf old lists answer new = ⊥
on_shelf shelf old (loads name) answer new = ⊥
on_shelf shelf old (saves name content) refusal new = ⊥
on_shelf shelf old (removes name) refusal new = ⊥
on_shelf shelf old (makes texts) refusal new = ⊥
on_shelf shelf old (writes bytes) refusal new = ⊥
on_shelf shelf old (crosses modules words budget) answer new = ⊥
on_shelf shelf old (measures asked modules hook) answer new = ⊥
on_shelf shelf old (tries modules words budget) answer new = ⊥
on_shelf shelf old (tests asked modules) answer new = ⊥
on_shelf shelf old (selects budget before after) answer new = ⊥
on_shelf shelf old (judges budget modules) answer new = ⊥
on_shelf shelf old (says text) answer new = ⊥

-- ---- a vault

-- A list of names. What a vault that tells its contents answers follows from its own law, as of the
-- other calls.
pub record ListOf {V : Type 0} (vault : VaultOf V) (old : V)
    (answer : Result (List Word) VaultError) (new : V) : Type 0 where
  pub moved : vault.lists old answer new
  pub not_absent : answer ≢ Err vault_error.Absent
  pub not_schema : answer ≢ Err vault_error.NotSchema7
  pub not_bad_row : (i : ℕ) → answer ≢ Err (vault_error.BadRow i)
  pub count : vault.faults old ≤ vault.faults new
  pub failed : answer ≡ Err vault_error.Failed → Rose (vault.faults old) (vault.faults new)

-- a load
pub record LoadOf {V : Type 0} (vault : VaultOf V) (old : V) (name : Word)
    (answer : Result DataSet VaultError) (new : V) : Type 0 where
  pub moved : vault.loads old name answer new
  pub count : vault.faults old ≤ vault.faults new
  pub failed : answer ≡ Err vault_error.Failed → Rose (vault.faults old) (vault.faults new)

-- a save
pub record SaveOf {V : Type 0} (vault : VaultOf V) (old : V) (name : Word) (content : DataSet)
    (refusal : Option VaultError) (new : V) : Type 0 where
  pub moved : vault.saves old name content refusal new
  pub not_absent : refusal ≢ Some vault_error.Absent
  pub not_bad_row : (i : ℕ) → refusal ≢ Some (vault_error.BadRow i)
  pub count : vault.faults old ≤ vault.faults new
  pub failed : refusal ≡ Some vault_error.Failed → Rose (vault.faults old) (vault.faults new)

-- a removal
pub record RemoveOf {V : Type 0} (vault : VaultOf V) (old : V) (name : Word)
    (refusal : Option VaultError) (new : V) : Type 0 where
  pub moved : vault.removes old name refusal new
  pub not_schema : refusal ≢ Some vault_error.NotSchema7
  pub not_bad_row : (i : ℕ) → refusal ≢ Some (vault_error.BadRow i)
  pub count : vault.faults old ≤ vault.faults new
  pub failed : refusal ≡ Some vault_error.Failed → Rose (vault.faults old) (vault.faults new)

-- a vault
abbrev pub on_vault : {V : Type 0} → VaultOf V → Moves Call Answer V
on_vault vault old (spells words) answer new = ⊥
on_vault vault old (checks bytes) reading new = ⊥
on_vault vault old (reads name most) answer new = ⊥
on_vault vault old (puts name bytes) refusal new = ⊥
on_vault vault old (opens name script) answer new = ⊥
on_vault vault old lists answer new = ListOf vault old answer new
on_vault vault old (loads name) answer new = LoadOf vault old name answer new
on_vault vault old (saves name content) refusal new = SaveOf vault old name content refusal new
on_vault vault old (removes name) refusal new = RemoveOf vault old name refusal new
on_vault vault old (makes texts) refusal new = ⊥
on_vault vault old (writes bytes) refusal new = ⊥
on_vault vault old (crosses modules words budget) answer new = ⊥
on_vault vault old (measures asked modules hook) answer new = ⊥
on_vault vault old (tries modules words budget) answer new = ⊥
on_vault vault old (tests asked modules) answer new = ⊥
on_vault vault old (selects budget before after) answer new = ⊥
on_vault vault old (judges budget modules) answer new = ⊥
on_vault vault old (says text) answer new = ⊥

-- ---- a maker of patterns

-- patterns are made of texts in order, until one is refused
pub record MakeOf {M : Type 0} (maker : MakerOf M) (old : M) (texts : List (List ℕ))
    (refusal : Option PatternError) (new : M) : Type 0 where
  pub refused :
      (e : PatternError) → refusal ≡ Some e
      → IsCauseOf texts (FoundLarge maker.too_large new) (maker.sizes old) (maker.sizes new) e
  pub count : maker.sizes old ≤ maker.sizes new

-- a maker
abbrev pub on_maker : {M : Type 0} → MakerOf M → Moves Call Answer M
on_maker maker old (spells words) answer new = ⊥
on_maker maker old (checks bytes) reading new = ⊥
on_maker maker old (reads name most) answer new = ⊥
on_maker maker old (puts name bytes) refusal new = ⊥
on_maker maker old (opens name script) answer new = ⊥
on_maker maker old lists answer new = ⊥
on_maker maker old (loads name) answer new = ⊥
on_maker maker old (saves name content) refusal new = ⊥
on_maker maker old (removes name) refusal new = ⊥
on_maker maker old (makes texts) refusal new = MakeOf maker old texts refusal new
on_maker maker old (writes bytes) refusal new = ⊥
on_maker maker old (crosses modules words budget) answer new = ⊥
on_maker maker old (measures asked modules hook) answer new = ⊥
on_maker maker old (tries modules words budget) answer new = ⊥
on_maker maker old (tests asked modules) answer new = ⊥
on_maker maker old (selects budget before after) answer new = ⊥
on_maker maker old (judges budget modules) answer new = ⊥
on_maker maker old (says text) answer new = ⊥

-- ---- an output

-- the whole text was written, or a prefix of it where that was refused
abbrev pub IsWritten : List ℕ → List ℕ → Option SinkError → List ℕ → Type 0
IsWritten old text None new = new ≡ old ++ text
IsWritten old text (Some sink_error.Failed) new = GainsPrefix old new text
IsWritten old text (Some sink_error.NoMemory) new = GainsPrefix old new text

-- a write
pub record WriteOf {O : Type 0} (sink : SinkOf O) (old : O) (bytes : List ℕ)
    (refusal : Option SinkError) (new : O) : Type 0 where
  pub told : sink.tells → IsWritten (sink.contents old) bytes refusal (sink.contents new)
  pub count : sink.faults old ≤ sink.faults new
  pub failed : refusal ≡ Some sink_error.Failed → Rose (sink.faults old) (sink.faults new)

-- an output, where nothing is run
abbrev pub on_sink : {O : Type 0} → SinkOf O → Moves Call Answer O
on_sink sink old (spells words) answer new = ⊥
on_sink sink old (checks bytes) reading new = ⊥
on_sink sink old (reads name most) answer new = ⊥
on_sink sink old (puts name bytes) refusal new = ⊥
on_sink sink old (opens name script) answer new = ⊥
on_sink sink old lists answer new = ⊥
on_sink sink old (loads name) answer new = ⊥
on_sink sink old (saves name content) refusal new = ⊥
on_sink sink old (removes name) refusal new = ⊥
on_sink sink old (makes texts) refusal new = ⊥
on_sink sink old (writes bytes) refusal new = WriteOf sink old bytes refusal new
on_sink sink old (crosses modules words budget) answer new = ⊥
on_sink sink old (measures asked modules hook) answer new = ⊥
on_sink sink old (tries modules words budget) answer new = ⊥
on_sink sink old (tests asked modules) answer new = ⊥
on_sink sink old (selects budget before after) answer new = ⊥
on_sink sink old (judges budget modules) answer new = ⊥
on_sink sink old (says text) answer new = ⊥

-- ---- `err`

-- what became of all that was said so far
pub data Told : Type 0 where
  whole : Told
  failed : Told
  no_room : Told

-- `err`, and what became of what was said
pub record Saying (E : Type 0) : Type 0 where
  pub sink : E
  pub told : Told

-- how a text was said to an output that tells its bytes
abbrev pub IsSaid : Told → List ℕ → List ℕ → List ℕ → Type 0
IsSaid whole text old new = new ≡ old ++ text
IsSaid failed text old new = GainsPrefix old new text
IsSaid no_room text old new = GainsPrefix old new text

-- a text is said, and nothing more after one that was refused
pub record SayOf {E : Type 0} (sink : SinkOf E) (old : Saying E) (text : List ℕ) (new : Saying E)
    : Type 0 where
  pub said :
      old.told ≡ whole → sink.tells
      → IsSaid new.told text (sink.contents old.sink) (sink.contents new.sink)
  pub over : old.told ≢ whole → new ≡ old
  pub count : sink.faults old.sink ≤ sink.faults new.sink
  pub rose :
      old.told ≡ whole → new.told ≡ failed
      → Rose (sink.faults old.sink) (sink.faults new.sink)

-- `err`
abbrev pub on_err : {E : Type 0} → SinkOf E → Moves Call Answer (Saying E)
on_err sink old (spells words) answer new = ⊥
on_err sink old (checks bytes) reading new = ⊥
on_err sink old (reads name most) answer new = ⊥
on_err sink old (puts name bytes) refusal new = ⊥
on_err sink old (opens name script) answer new = ⊥
on_err sink old lists answer new = ⊥
on_err sink old (loads name) answer new = ⊥
on_err sink old (saves name content) refusal new = ⊥
on_err sink old (removes name) refusal new = ⊥
on_err sink old (makes texts) refusal new = ⊥
on_err sink old (writes bytes) refusal new = ⊥
on_err sink old (crosses modules words budget) answer new = ⊥
on_err sink old (measures asked modules hook) answer new = ⊥
on_err sink old (tries modules words budget) answer new = ⊥
on_err sink old (tests asked modules) answer new = ⊥
on_err sink old (selects budget before after) answer new = ⊥
on_err sink old (judges budget modules) answer new = ⊥
on_err sink old (says text) answer new = SayOf sink old text new
