-- The calls that commands make, and how a command ends.
--     Answered                     how a command ended
--     PlainSource, Patterns        a source, and the patterns of a report
--     HookFiles, Asked             a hook that was loaded, and what a run is asked
--     Ran                          what a run came to
--     TestsAsked                   what tests are asked
--     AfterImport                  what comes of tests, where their import has to finish
--     TestEnd, TestResult, Tested  how a test ended, and what tests came to
--     Selection                    the tests that must run again
--     Verdict, Judged              what tests notice of a mutant
--     Call, Answer                 a call, and what is answered to it
--     Step, refuse                 a program over calls, and one that is refused
--     IsNoMemory                   want of memory
--     seen                         an answer of the code
use Rattle.std.specs.Prelude.{◌≡◌, ℕ, Bool, List, Option, Result, Ok, Err}
use Rattle.cov_outside.specs.declared.shelf.ShelfError.{ShelfError}
use Rattle.cov_outside.specs.declared.sink.SinkError.{SinkError}
use Rattle.py_builtins.specs.Outcomes.{Outcome}
use Rattle.py_builtins.specs.declared.fault.RunFault.{RunFault}
use Rattle.py_meaning.specs.Modules.{LoadedModule}
use Rattle.py_syntax.specs.Tree.{Text, Stmts}
use Rattle.py_value.specs.declared.exception.ExcKind.{ExcKind}
use Rattle.cov_data.specs.DataSet.{DataSet}
use Rattle.cov_exclude.specs.declared.patterns.PatternError.{PatternError}
use Rattle.cov_programs.specs.Programs.{Program}
use Rattle.cov_programs.specs.Programs as programs
use Rattle.cov_run.specs.Reading.{Reading}
use Rattle.cov_vault.specs.declared.vault.VaultError.{VaultError}
use Rattle.cov_why.specs.Answers.{Refusal, no_memory, Ended, PlainWhy, plain_why}
use Rattle.cov_why.specs.declared.why.Why.{Why}
use Rattle.cov_words.specs.Commands.{PlainCommand}
use Rattle.cov_words.specs.Values.{Word}

-- How a command ended that wasn't refused, with the bytes that its program's ending writes to
-- `err`, or the percent that was asked for.
pub record Answered : Type 0 where
  pub ended : Ended
  pub ending : List ℕ

-- a source that is reported: its path, its text and its tree
pub record PlainSource : Type 0 where
  pub path : Word
  pub text : List ℕ
  pub body : Stmts

-- the texts of the patterns that exclude a line, and of those that free its branches
pub record Patterns : Type 0 where
  pub exclude : List (List ℕ)
  pub partial : List (List ℕ)

-- a hook that was loaded: its modules, the path of its file and the name of its function
pub record HookFiles : Type 0 where
  pub modules : List LoadedModule
  pub script : Text
  pub function : Text

-- what a run is asked: whether it records arcs, its static context, whether names give labels, its
-- words and its steps
pub record Asked : Type 0 where
  pub arcs : Bool
  pub context : Word
  pub by_name : Bool
  pub words : List Text
  pub budget : ℕ

-- how a run ended, after how many steps, and the rows that were recorded
pub record Ran : Type 0 where
  pub outcome : Outcome
  pub steps : ℕ
  pub rows : DataSet

-- what tests are asked: whether they record arcs, their static context, and the steps of the import
-- and of each test
pub record TestsAsked : Type 0 where
  pub arcs : Bool
  pub context : Word
  pub budget : ℕ

-- What comes of tests, where the import of their modules has to finish first. Or that import
-- didn't, or memory was wanting.
pub data AfterImport (A : Type 0) : Type 0 where
  came : (a : A) → AfterImport A
  not_imported : AfterImport A
  starved : AfterImport A

-- how a test ended: it passed, it failed with an exception that nothing caught, or it was cut
pub data TestEnd : Type 0 where
  passed : TestEnd
  failed : (kind : ExcKind) (text : Text) → TestEnd
  cut : TestEnd

-- a test by its name, and how it ended
pub record TestResult : Type 0 where
  pub name : Text
  pub end : TestEnd

-- what tests came to: how each ended, and the rows that were recorded of them and of the import
abbrev pub Tested : Type 0
Tested = AfterImport (List TestResult × DataSet)

-- the tests of a new version that must run again, in order, and how many tests it has
pub record Selection : Type 0 where
  pub names : List Text
  pub count : ℕ

-- What tests notice of a mutant. It is killed where its import doesn't finish, or a test doesn't
-- pass that passed before. Where neither the import nor a test reached its line, it is unreached.
-- Any other survived.
pub data Verdict : Type 0 where
  killed : Verdict
  survived : Verdict
  unreached : Verdict

-- a mutant: the path of its module, its line, the token that is changed, the one in its place, and
-- what tests notice of it
pub record Judged : Type 0 where
  pub path : Text
  pub line : ℕ
  pub old : List ℕ
  pub new : List ℕ
  pub verdict : Verdict

-- Each call is one of a public function, and its relation is that function's clauses.
pub data Call : Type 0 where
  -- what words are, and what the bytes of a source are
  spells : (words : List Word) → Call
  checks : (bytes : List ℕ) → Call
  -- a shelf: a read, a put, and loading of a script, whose module has this name
  reads : (name : Word) (most : ℕ) → Call
  puts : (name : Word) (bytes : List ℕ) → Call
  opens : (name : Text) (script : Word) → Call
  -- a vault
  lists : Call
  loads : (name : Word) → Call
  saves : (name : Word) (content : DataSet) → Call
  removes : (name : Word) → Call
  -- a maker of patterns
  makes : (texts : List (List ℕ)) → Call
  -- input and output: a write, a run with its arcs and no labels, and one that is measured
  writes : (bytes : List ℕ) → Call
  crosses : (modules : List LoadedModule) (words : List Text) (budget : ℕ) → Call
  measures : (asked : Asked) (modules : List LoadedModule) (hook : Option HookFiles) → Call
  -- a run with arcs on objects of its own: it reads nothing, and what it writes is thrown away
  tries : (modules : List LoadedModule) (words : List Text) (budget : ℕ) → Call
  -- an import and its tests, likewise, but for the plugins, which give labels
  tests : (asked : TestsAsked) (modules : List LoadedModule) → Call
  -- Which tests of new modules must run again, after those of the modules before, and what tests
  -- notice of the mutants of their modules. All run on objects of their own, without plugins.
  selects : (budget : ℕ) (before after : List LoadedModule) → Call
  judges : (budget : ℕ) (modules : List LoadedModule) → Call
  -- a text for `err`
  says : (text : List ℕ) → Call

-- what is answered
abbrev pub Answer : Call → Type 0
Answer (spells words) = Result PlainCommand ℕ
Answer (checks bytes) = Reading
Answer (reads name most) = Result (List ℕ) ShelfError
Answer (puts name bytes) = Option ShelfError
Answer (opens name script) = Result (List LoadedModule) Refusal
Answer lists = Result (List Word) VaultError
Answer (loads name) = Result DataSet VaultError
Answer (saves name content) = Option VaultError
Answer (removes name) = Option VaultError
Answer (makes texts) = Option PatternError
Answer (writes bytes) = Option SinkError
Answer (crosses modules words budget) = Result Ran RunFault
Answer (measures asked modules hook) = Result Ran RunFault
Answer (tries modules words budget) = Option Ran
Answer (tests asked modules) = Tested
Answer (selects budget before after) = AfterImport Selection
Answer (judges budget modules) = AfterImport (List Judged)
Answer (says text) = Unit {0}

-- A program over these calls. What the code answers in place of a value is any ending; a program is
-- refused, or gives how it ended as its value.
abbrev pub Step : Type 0 → Type 0
Step A = Program Call Answer PlainWhy A

-- it is refused
abbrev pub refuse : {A : Type 0} → Refusal → Step A
refuse refusal = programs.refuse (Err refusal)

-- want of memory
abbrev pub IsNoMemory : PlainWhy → Type 0
IsNoMemory why = why ≡ Err no_memory

-- an answer of the code, with its value seen so
abbrev pub seen : {X A : Type 0} → (X → A) → Result X Why → Result A PlainWhy
seen view (Ok x) = Ok (view x)
seen view (Err why) = Err (plain_why why)
