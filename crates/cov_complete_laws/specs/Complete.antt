-- A command that is ready isn't refused, where no fault is counted and memory suffices.
--     Lent, on_lent    the objects that a command is lent, and what they answer
--     NoneRose         no fault was counted
--     EndsWell         it isn't refused, unless memory was wanting
--     CompleteLaw      so a command ends that is ready
use Rattle.std.specs.Prelude.{List, Result, Ok, Err}
use Rattle.cov_contexts.specs.declared.plugins.Plugin.{Ghosts as PluginOf}
use Rattle.cov_exclude.specs.declared.maker.Maker.{Ghosts as MakerOf}
use Rattle.cov_measure.specs.Measures.{Streams}
use Rattle.cov_outside.specs.Counts.{Rose}
use Rattle.cov_outside.specs.declared.shelf.Shelf.{Ghosts as ShelfOf}
use Rattle.cov_outside.specs.declared.sink.Sink.{Ghosts as SinkOf}
use Rattle.cov_outside.specs.declared.source.Source.{Ghosts as SourceOf}
use Rattle.cov_programs.specs.Ends.{Follows}
use Rattle.cov_programs.specs.Objects.{Moves, beside}
use Rattle.cov_step.specs.Calls.{Call, Answer, Answered, IsNoMemory}
use Rattle.cov_step.specs.Objects.{on_grammar, on_shelf, on_vault, on_maker, on_err, Saying}
use Rattle.cov_step.specs.Step.{step}
use Rattle.cov_streams.specs.Objects.{on_run}
use Rattle.cov_vault.specs.declared.vault.Vault.{Ghosts as VaultOf}
use Rattle.cov_why.specs.Answers.{PlainWhy}
use Rattle.cov_words.specs.Commands.{PlainCommand, IsCommand}
use Rattle.cov_words.specs.Values.{Word}
use Rattle.py_machine.specs.declared.engine.Engine.{Ghosts as EngineOf}
use Rattle.cov_complete_laws.specs.Ready.{Ready}

-- the states of grammar, shelf, vault, maker and the streams of a run
abbrev pub Lent : (H V M I O P G : Type 0) → Type 0
Lent H V M I O P G = (((Unit {0} × H) × V) × M) × Streams I O P G

-- what they answer, and `err` beside them
abbrev pub on_lent : {H V M I O P G E : Type 0} → ShelfOf H → VaultOf V → MakerOf M → SourceOf I
    → SinkOf O → PluginOf P → EngineOf G → SinkOf E
    → Moves Call Answer (Lent H V M I O P G × Saying E)
on_lent shelf vault maker source sink plugin engine err =
    beside
    (beside
    (beside (beside (beside on_grammar (on_shelf shelf)) (on_vault vault)) (on_maker maker))
    (on_run source sink plugin engine))
    (on_err err)

-- none of these objects counted a fault between two states
pub record NoneRose {H V M I O P G : Type 0} (shelf : ShelfOf H) (vault : VaultOf V)
    (maker : MakerOf M) (source : SourceOf I) (sink : SinkOf O) (old new : Lent H V M I O P G)
    : Type 0 where
  pub files : ¬ (Rose (shelf.faults old.0.0.0.1) (shelf.faults new.0.0.0.1))
  pub contents : ¬ (Rose (vault.faults old.0.0.1) (vault.faults new.0.0.1))
  pub patterns : ¬ (Rose (maker.sizes old.0.1) (maker.sizes new.0.1))
  pub input : ¬ (Rose (source.faults old.1.input) (source.faults new.1.input))
  pub out : ¬ (Rose (sink.faults old.1.out) (sink.faults new.1.out))

-- it isn't refused, unless memory was wanting
abbrev pub EndsWell : {A : Type 0} → Result A PlainWhy → Type 0
EndsWell (Ok a) = Unit {0}
EndsWell (Err why) = IsNoMemory why

-- Words are a command that is ready by what shelf and vault hold and tell, and no fault is counted.
-- Then it ends well, whatever becomes of `err`.
abbrev pub CompleteLaw : {H V M I O P G E : Type 0} → ShelfOf H → VaultOf V → MakerOf M
    → SourceOf I → SinkOf O → PluginOf P → EngineOf G → SinkOf E → Type 0
CompleteLaw {H} {V} {M} {I} {O} {P} {G} {E} shelf vault maker source sink plugin engine err =
    (words : List Word) (c : PlainCommand) (old new : Lent H V M I O P G) (said told : Saying E)
    (ending : Result Answered PlainWhy)
    → IsCommand c words → Ready (shelf.files old.0.0.0.1) (vault.contents old.0.0.1) c
    → shelf.tells → vault.tells old.0.0.1
    → NoneRose shelf vault maker source sink old new
    → Follows (on_lent shelf vault maker source sink plugin engine err) IsNoMemory (step words)
    (old, said) ending (new, told)
    → EndsWell ending
