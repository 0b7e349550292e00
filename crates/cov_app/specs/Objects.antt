-- The objects that a command is lent.
--     All, all_of       their states, but for `err`
--     on_all            what they answer
--     told_view         what became of what was said
--     saying            the state of `err`
--     lent              the states of all
--     on_command        what all answer
use Rattle.cov_contexts.specs.declared.plugins.Plugin.{Ghosts as PluginOf}
use Rattle.cov_exclude.specs.declared.maker.Maker.{Ghosts as MakerOf}
use Rattle.cov_outside.specs.declared.shelf.Shelf.{Ghosts as ShelfOf}
use Rattle.cov_outside.specs.declared.sink.Sink.{Ghosts as SinkOf}
use Rattle.cov_outside.specs.declared.source.Source.{Ghosts as SourceOf}
use Rattle.py_machine.specs.declared.engine.Engine.{Ghosts as EngineOf}
use Rattle.cov_measure.specs.Measures.{Streams}
use Rattle.cov_programs.specs.Objects.{Moves, beside}
use Rattle.cov_step.specs.Calls.{Call, Answer}
use Rattle.cov_step.specs.Objects.{on_grammar, on_shelf, on_vault, on_maker, on_err, Saying}
use Rattle.cov_step.specs.Objects as plain
use Rattle.cov_streams.specs.Objects.{on_run}
use Rattle.cov_vault.specs.declared.vault.Vault.{Ghosts as VaultOf}
use Rattle.cov_app.specs.declared.answer.Told.{Told}
use Rattle.cov_app.specs.declared.answer.Told.TheVariants as told

-- their states: grammar, shelf, vault, maker, and the streams of a run
abbrev pub All : (H V M I O P G : Type 0) → Type 0
All H V M I O P G = (((Unit {0} × H) × V) × M) × Streams I O P G

-- of these
abbrev pub all_of : {H V M I O P G : Type 0} → H → V → M → Streams I O P G → All H V M I O P G
all_of shelf vault maker run = ((((tt, shelf), vault), maker), run)

-- what they answer
abbrev pub on_all : {H V M I O P G : Type 0} → ShelfOf H → VaultOf V → MakerOf M → SourceOf I
    → SinkOf O → PluginOf P → EngineOf G → Moves Call Answer (All H V M I O P G)
on_all shelf vault maker source sink plugin engine =
    beside (beside (beside (beside on_grammar (on_shelf shelf)) (on_vault vault)) (on_maker maker))
    (on_run source sink plugin engine)

-- ---- with `err`

-- what became of what was said, as that
abbrev pub told_view : Told → plain.Told
told_view told.Whole = plain.whole
told_view told.Failed = plain.failed
told_view told.NoMemory = plain.no_room

-- `err`, and what became of what was said to it
abbrev pub saying : {E : Type 0} → E → Told → Saying E
saying err what = record { sink = err; told = told_view what }

-- the states of all of them, and of `err`
abbrev pub lent : {H V M I O P G E : Type 0} → H → V → M → Streams I O P G → E → Told
    → All H V M I O P G × Saying E
lent shelf vault maker run err what = (all_of shelf vault maker run, saying err what)

-- what the objects of a command answer, and `err`
abbrev pub on_command : {H V M I O P G E : Type 0} → ShelfOf H → VaultOf V → MakerOf M
    → SourceOf I → SinkOf O → PluginOf P → EngineOf G → SinkOf E
    → Moves Call Answer (All H V M I O P G × Saying E)
on_command shelf vault maker source sink plugin engine err =
    beside (on_all shelf vault maker source sink plugin engine) (on_err err)
