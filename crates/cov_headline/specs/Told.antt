-- What the objects of a command hold, and how it changes from call to call, where each of them
-- tells it, memory suffices and no fault is counted.
--     Lent, on_lent             the objects that a command is lent, and what they answer
--     Held, held                what they hold
--     RanAs                     a run
--     IsSaidNow                 a text that is said on `err`
--     tells                     what they answer by what they hold
--     AllTell, NoneRose         each tells what it holds; no fault was counted
use Rattle.std.specs.Prelude.{◌≡◌, ◌≢◌, ℕ, List, [], ◌++◌, Option, None, option_map, Ok, Err}
use Rattle.std.specs.FinMap as finite
use Rattle.std.specs.Str.{chars}
use Rattle.cov_outside.specs.Counts.{Rose}
use Rattle.cov_outside.specs.Files.{Files}
use Rattle.cov_outside.specs.Reads.{IsTold, IsPut}
use Rattle.cov_outside.specs.declared.shelf.Shelf.{Ghosts as ShelfOf}
use Rattle.cov_outside.specs.declared.sink.Sink.{Ghosts as SinkOf}
use Rattle.cov_outside.specs.declared.source.Source.{Ghosts as SourceOf}
use Rattle.cov_contexts.specs.declared.plugins.Plugin.{Ghosts as PluginOf}
use Rattle.cov_exclude.specs.declared.maker.Maker.{Ghosts as MakerOf}
use Rattle.py_machine.specs.declared.engine.Engine.{Ghosts as EngineOf}
use Rattle.py_meaning.specs.Modules.{LoadedModule}
use Rattle.py_meaning.specs.Program.{run_modules}
use Rattle.cov_hook_laws.specs.MeantHooks.{MeantHook}
use Rattle.cov_measure.specs.Measures.{Streams, MeasuredAs, sources_of}
use Rattle.cov_measure.specs.Measuring.{HasRunSteps}
use Rattle.cov_measure.specs.Requests.{Asked}
use Rattle.cov_measure_laws.specs.Meant.{tree_plan}
use Rattle.cov_programs.specs.Objects.{Moves, beside}
use Rattle.cov_run.specs.Loading.{told_by}
use Rattle.cov_run.specs.Loads.{LoadsTo}
use Rattle.cov_run.specs.Reading.{Reads}
use Rattle.cov_step.specs.Calls.{Call, spells, checks, reads, puts, opens, lists, loads, saves, removes, makes, writes, crosses, measures, tries, tests, selects, judges, says, Answer, Ran}
use Rattle.cov_step.specs.Objects.{on_grammar, on_shelf, on_vault, on_maker, on_err, Saying, whole, failed, IsSaid}
use Rattle.cov_step.specs.Step.{IsSpelled}
use Rattle.cov_streams.specs.Objects.{on_run}
use Rattle.cov_streams.specs.Retests.{SelectedAs, JudgedAs}
use Rattle.cov_streams.specs.Runs.{request_of, hook_meant, ended_of, arcs_asked}
use Rattle.cov_streams.specs.Suites.{TestedAs}
use Rattle.cov_vault.specs.Answers.{IsListed, IsLoaded, IsSaved, IsRemoved}
use Rattle.cov_vault.specs.Contents.{Contents}
use Rattle.cov_vault.specs.declared.vault.Vault.{Ghosts as VaultOf}

-- ---- the objects

-- the states of grammar, shelf, vault, maker, the streams of a run, and `err`
abbrev pub Lent : (H V M I O P G E : Type 0) → Type 0
Lent H V M I O P G E = ((((Unit {0} × H) × V) × M) × Streams I O P G) × Saying E

-- what they answer
abbrev pub on_lent : {H V M I O P G E : Type 0} → ShelfOf H → VaultOf V → MakerOf M → SourceOf I
    → SinkOf O → PluginOf P → EngineOf G → SinkOf E → Moves Call Answer (Lent H V M I O P G E)
on_lent shelf vault maker source sink plugin engine err =
    beside
    (beside
    (beside (beside (beside on_grammar (on_shelf shelf)) (on_vault vault)) (on_maker maker))
    (on_run source sink plugin engine))
    (on_err err)

-- ---- what they hold

-- the files, the data by name, the input that is left, the output, `err` and what became of it, and
-- the plugins
pub record Held (P : Type 0) : Type 0 where
  pub files : Files
  pub contents : Contents
  pub left : List ℕ
  pub out : List ℕ
  pub err : Saying (List ℕ)
  pub plugins : List P

-- of objects that tell it
abbrev pub held : {H V M I O P G E : Type 0} → ShelfOf H → VaultOf V → SourceOf I → SinkOf O
    → SinkOf E → Lent H V M I O P G E → Held P
held shelf vault source sink err w = record {
  files = shelf.files w.0.0.0.0.1;
  contents = vault.contents w.0.0.0.1;
  left = source.left w.0.1.input;
  out = sink.contents w.0.1.out;
  err = record { sink = err.contents w.1.sink; told = w.1.told };
  plugins = w.0.1.plugins;
}

-- ---- calls

-- These modules ran with this hook and these plugins. It ended as they mean with the input that was
-- left, and so it printed. The rows are those that the run means, under the labels of hook and
-- plugins, and these plugins are left.
pub record RanAs {P : Type 0} (plugin : PluginOf P) (asked : Asked) (ms : List LoadedModule)
    (hook : Option MeantHook) (plugins : List P) (old : Held P) (r : Ran) (rest : List P)
    (new : Held P) : Type 0 where
  pub ended :
      MeasuredAs plugin asked ms (sources_of hook plugins asked.by_name)
      (run_modules ms asked.words old.left asked.budget) (ended_of r) rest
      (λ bytes. new.out ≡ old.out ++ bytes) new.left
  pub steps :
      HasRunSteps (tree_plan ms asked.arcs asked.context) ms
      (run_modules ms asked.words old.left asked.budget).items r.rows

-- a text is said on `err`, unless one was refused before it; it isn't refused but for want of
-- memory
pub record IsSaidNow (old : Saying (List ℕ)) (text : List ℕ) (new : Saying (List ℕ)) : Type 0 where
  pub said : old.told ≡ whole → IsSaid new.told text old.sink new.sink
  pub not_failed : old.told ≡ whole → new.told ≢ failed
  pub over : old.told ≢ whole → new ≡ old

-- what is answered, and what is held then
abbrev pub tells : {P : Type 0} → PluginOf P → Moves Call Answer (Held P)
tells plugin old (spells words) answer new = IsSpelled words answer × (new ≡ old)
tells plugin old (checks bytes) reading new = Reads bytes reading × (new ≡ old)
tells plugin old (reads name most) answer new =
    IsTold (old.files name) most answer × (new ≡ old)
tells plugin old (puts name bytes) refusal new =
    IsPut old.files name bytes refusal new.files × (new ≡ record old { files = new.files })
tells plugin old (opens name script) answer new =
    LoadsTo (told_by old.files (chars script)) (chars script) name answer × (new ≡ old)
tells plugin old lists answer new = IsListed old.contents answer × (new ≡ old)
tells plugin old (loads name) answer new =
    IsLoaded (finite.get old.contents name) answer × (new ≡ old)
tells plugin old (saves name content) refusal new =
    IsSaved old.contents name content refusal new.contents
    × (new ≡ record old { contents = new.contents })
tells plugin old (removes name) refusal new =
    IsRemoved old.contents name refusal new.contents
    × (new ≡ record old { contents = new.contents })
tells plugin old (makes texts) refusal new = new ≡ old
tells plugin old (writes bytes) refusal new =
    (refusal ≡ None) × (new ≡ record old { out = old.out ++ bytes })
tells plugin old (crosses modules words budget) (Ok r) new =
    RanAs plugin (arcs_asked words budget) modules None [] old r [] new
    × (new ≡ record old { left = new.left; out = new.out })
tells plugin old (crosses modules words budget) (Err fault) new = ⊥
tells plugin old (measures asked modules hook) (Ok r) new =
    RanAs plugin (request_of asked) modules (option_map hook_meant hook) old.plugins old r
    new.plugins new
    × (new ≡ record old { left = new.left; out = new.out; plugins = new.plugins })
tells plugin old (measures asked modules hook) (Err fault) new = ⊥
tells plugin old (tries modules words budget) answer new = new ≡ old
tells plugin old (tests asked modules) answer new =
    TestedAs plugin asked modules old.plugins answer new.plugins
    × (new ≡ record old { plugins = new.plugins })
tells plugin old (selects budget before after) answer new =
    SelectedAs budget before after answer × (new ≡ old)
tells plugin old (judges budget modules) answer new =
    JudgedAs budget modules answer × (new ≡ old)
tells plugin old (says text) answer new =
    IsSaidNow old.err text new.err × (new ≡ record old { err = new.err })

-- ---- where this is so

-- each object tells what it holds, and the engine is true
pub record AllTell {H V I O G E : Type 0} (shelf : ShelfOf H) (vault : VaultOf V)
    (source : SourceOf I) (sink : SinkOf O) (engine : EngineOf G) (err : SinkOf E) (data_now : V)
    : Type 0 where
  pub files : shelf.tells
  pub contents : vault.tells data_now
  pub input : source.tells
  pub out : sink.tells
  pub said : err.tells
  pub true_engine : engine.faithful

-- no object counted a fault between two states
pub record NoneRose {H V M I O P G E : Type 0} (shelf : ShelfOf H) (vault : VaultOf V)
    (maker : MakerOf M) (source : SourceOf I) (sink : SinkOf O) (err : SinkOf E)
    (old new : Lent H V M I O P G E) : Type 0 where
  pub files : ¬ (Rose (shelf.faults old.0.0.0.0.1) (shelf.faults new.0.0.0.0.1))
  pub contents : ¬ (Rose (vault.faults old.0.0.0.1) (vault.faults new.0.0.0.1))
  pub patterns : ¬ (Rose (maker.sizes old.0.0.1) (maker.sizes new.0.0.1))
  pub input : ¬ (Rose (source.faults old.0.1.input) (source.faults new.0.1.input))
  pub out : ¬ (Rose (sink.faults old.0.1.out) (sink.faults new.0.1.out))
  pub said : ¬ (Rose (err.faults old.1.sink) (err.faults new.1.sink))
