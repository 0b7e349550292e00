-- The headline. For any list of runs, combines and reports, every run prints and ends as its
-- source's meaning says, its recorded arcs are those of that meaning, and each of them is predicted
-- or crossed by a raised exception. What a report lists as missing is exactly what no combined run
-- took, of the statements that aren't excluded and the predicted branches that are neither excluded
-- nor freed. The order of combining is of no matter. So it is of a single command too.
--     CommandDone, LineDone                 a line of a script
--     LinesKept, ScriptKept                 its lines, one after another
--     DoneOrRefused, KeptBy, CommandKept    a command
--     Headline, HeadlineLaw                 words, over objects that tell what they hold
-- These words are defined elsewhere:
--     Promise      what a command promises that did its work:
--         a run: the modules of its script's files ran with its words and the input that was left;
--             it printed and ended as they mean; its rows have exactly the arcs and lines of that
--             meaning, each arc predicted or crossed by an exception; they are saved, joined to
--             those that stood there where that was asked for
--         a combine: the data of all inputs are saved as one, each path under its alias, and they
--             are the same in whatever order the inputs come
--         a report, as a table, as JSON or as LCOV: that text of the data's sources is written or
--             put. A line is missing exactly where it is a statement and isn't excluded, and a
--             branch where it is predicted and neither excluded nor freed, if it was taken neither
--             by a run that the data come from nor in data that were there at first
--         a suite, a selection, verdicts of mutants: what is written of tests is what the modules
--             mean, and of a suite the rows of the import and of each test are saved
--         each other command: no data are saved
--     runs_of      the runs that a command did, with their rows
--     AreKept      all data come from these runs and from data that were there at first
--     script_of    the file of a command that is a script
--     Held, held   what the objects of a command hold: files, data by name, input, output, `err`
--                  and plugins
--     tells        what a call answers by what is held, and what is held then
--     Follows      a program of calls went so, from one state to another, and ended so
--     IsSaidNow    a text is said on `err`
--     Lent         the states of these objects, which answer by `on_lent`
--     AllTell      each of them tells what it holds, and the engine is true
--     NoneRose     none of them counted a fault
--     IsFed        memory sufficed
use Rattle.std.specs.Prelude.{◌≡◌, ◌⊎◌, ℕ, List, [], ◌∷◌, ◌++◌, Option, Some, None, Result, Ok, Err}
use Rattle.std.specs.Str.Lines.{lines}
use Rattle.cov_contexts.specs.declared.plugins.Plugin.{Ghosts as PluginOf}
use Rattle.cov_programs.specs.Ends.{Follows}
use Rattle.cov_programs.specs.Laws.{nothing_wants, IsFed, with_front}
use Rattle.cov_step.specs.Calls.{Answered, IsNoMemory}
use Rattle.cov_step.specs.Phases.{done}
use Rattle.cov_step.specs.Scripts.{words_in, status_line, line_step, script_text}
use Rattle.cov_vault.specs.Contents.{Contents}
use Rattle.cov_why.specs.Answers.{PlainWhy, usage}
use Rattle.cov_why.specs.Messages.{message_of}
use Rattle.cov_words.specs.Commands.{PlainCommand, IsCommand}
use Rattle.cov_words.specs.Values.{Word}
use Rattle.cov_headline.specs.Told.{Lent, on_lent, Held, held, IsSaidNow, tells, AllTell, NoneRose}
use Rattle.cov_exclude.specs.declared.maker.Maker.{Ghosts as MakerOf}
use Rattle.cov_outside.specs.declared.shelf.Shelf.{Ghosts as ShelfOf}
use Rattle.cov_outside.specs.declared.sink.Sink.{Ghosts as SinkOf}
use Rattle.cov_outside.specs.declared.source.Source.{Ghosts as SourceOf}
use Rattle.cov_vault.specs.declared.vault.Vault.{Ghosts as VaultOf}
use Rattle.py_machine.specs.declared.engine.Engine.{Ghosts as EngineOf}
use Rattle.cov_step.specs.Step.{step}
use Rattle.cov_headline.specs.Commands.{Promise, runs_of, script_of}
use Rattle.cov_headline.specs.Kept.{Recorded, AreKept}

-- ---- a script

-- The words of a line are a command, and it did its work. Then its text was said, and its status is
-- a line of the output.
pub record CommandDone {P : Type 0} (plugin : PluginOf P) (first : Contents) (runs : Recorded)
    (words : List Word) (old : Held P) (more : Recorded) (new : Held P) : Type 0 where
  pub command : PlainCommand
  pub is : IsCommand command words
  pub answer : Answered
  pub mid : Held P
  pub promise : Promise plugin first runs command old answer mid
  pub ran : more ≡ runs_of plugin first runs command old answer mid promise
  pub said : IsSaidNow mid.err (message_of (Ok answer.ended) answer.ending) new.err
  pub noted : new ≡ record mid { out = mid.out ++ status_line answer; err = new.err }

-- a line after these runs: it is passed over, or its command is done, with the runs that it did
abbrev pub LineDone : {P : Type 0} → PluginOf P → Contents → Recorded → Word → Held P → Recorded
    → Held P → Type 0
LineDone plugin first runs line old more new =
    ((more ≡ []) × (new ≡ old)) ⊎ CommandDone plugin first runs (words_in line) old more new

-- Lines one after another, after these runs. Before each of them and after the last, all data that
-- are kept come from the runs so far and from what was there at first. The first line that is
-- refused ends the script.
abbrev pub LinesKept : {P : Type 0} → PluginOf P → Contents → Recorded → List Word → Held P
    → Result (List (Unit {0})) PlainWhy → Held P → Type 0
LinesKept plugin first runs [] old told new =
    AreKept first runs old.contents × (told ≡ Ok []) × (new ≡ old)
LinesKept {P} plugin first runs (line ∷ rest) old told new =
    AreKept first runs old.contents
    × (((mid : Held P) × (more : Recorded) × (later : Result (List (Unit {0})) PlainWhy)
    × LineDone plugin first runs line old more mid
    × LinesKept plugin first (more ++ runs) rest mid later new × (told ≡ with_front tt later))
    ⊎ ((why : PlainWhy) × Follows (tells plugin) nothing_wants (line_step line) old (Err why) new
    × (told ≡ Err why)))

-- what a script answers whose lines came to this
abbrev pub ended_in : Result (List (Unit {0})) PlainWhy → Result Answered PlainWhy
ended_in (Ok told) = Ok done
ended_in (Err why) = Err why

-- The file of commands is refused, and nothing was done; or its lines are kept, one after another.
abbrev pub ScriptKept : {P : Type 0} → PluginOf P → Word → Held P → Result Answered PlainWhy
    → Held P → Type 0
ScriptKept plugin file old ending new =
    ((why : PlainWhy) × Follows (tells plugin) nothing_wants (script_text file) old (Err why) new
    × (ending ≡ Err why) × (new ≡ old))
    ⊎ ((text : List ℕ) × (told : Result (List (Unit {0})) PlainWhy) × (old.files file ≡ Some text)
    × LinesKept plugin old.contents [] (lines text) old told new × (ending ≡ ended_in told))

-- ---- words

-- a command that did its work keeps its promise
abbrev pub DoneOrRefused : {P : Type 0} → PluginOf P → PlainCommand → Held P
    → Result Answered PlainWhy → Held P → Type 0
DoneOrRefused plugin c old (Ok a) new = Promise plugin old.contents [] c old a new
DoneOrRefused plugin c old (Err why) new = Unit {0}

-- where it is a script, its lines are kept
abbrev pub KeptBy : {P : Type 0} → PluginOf P → Option Word → PlainCommand → Held P
    → Result Answered PlainWhy → Held P → Type 0
KeptBy plugin (Some file) c old ending new = ScriptKept plugin file old ending new
KeptBy plugin None c old ending new = DoneOrRefused plugin c old ending new

-- a command, or a script of them
abbrev pub CommandKept : {P : Type 0} → PluginOf P → PlainCommand → Held P
    → Result Answered PlainWhy → Held P → Type 0
CommandKept plugin c old ending new = KeptBy plugin (script_of c) c old ending new

-- The words are a command that keeps this; or they are none, and nothing was done.
abbrev pub Headline : {P : Type 0} → PluginOf P → List Word → Held P → Result Answered PlainWhy
    → Held P → Type 0
Headline plugin words old ending new =
    ((c : PlainCommand) × IsCommand c words × CommandKept plugin c old ending new)
    ⊎ (((c : PlainCommand) → IsCommand c words → ⊥)
    × ((begin : ℕ) × (ending ≡ Err (Err (usage begin)))) × (new ≡ old))

-- So it is where the objects of a command follow the step of its words, each tells what it holds
-- and counted no fault, memory sufficed, and the engine is true.
abbrev pub HeadlineLaw : {H V M I O P G E : Type 0} → ShelfOf H → VaultOf V → MakerOf M
    → SourceOf I → SinkOf O → PluginOf P → EngineOf G → SinkOf E → Type 0
HeadlineLaw {H} {V} {M} {I} {O} {P} {G} {E} shelf vault maker source sink plugin engine err =
    (words : List Word) (old new : Lent H V M I O P G E) (ending : Result Answered PlainWhy)
    → AllTell shelf vault source sink engine err old.0.0.0.1
    → NoneRose shelf vault maker source sink err old new → IsFed IsNoMemory ending
    → Follows (on_lent shelf vault maker source sink plugin engine err) IsNoMemory (step words) old
    ending new
    → Headline plugin words (held shelf vault source sink err old) ending
    (held shelf vault source sink err new)
