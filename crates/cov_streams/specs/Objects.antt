-- What input, output, plugins and engine answer to the calls of a command.
--     WriteRun    a write, which leaves the others alone
--     on_run      all calls
use Rattle.std.specs.Prelude.{◌≡◌, ℕ, List, Option}
use Rattle.cov_contexts.specs.declared.plugins.Plugin.{Ghosts as PluginOf}
use Rattle.cov_outside.specs.declared.sink.Sink.{Ghosts as SinkOf}
use Rattle.cov_outside.specs.declared.sink.SinkError.{SinkError}
use Rattle.cov_outside.specs.declared.source.Source.{Ghosts as SourceOf}
use Rattle.py_machine.specs.declared.engine.Engine.{Ghosts as EngineOf}
use Rattle.cov_measure.specs.Measures.{Streams, streams}
use Rattle.cov_programs.specs.Objects.{Moves}
use Rattle.cov_step.specs.Calls.{Call, spells, checks, reads, puts, opens, lists, loads, saves, removes, makes, writes, crosses, measures, tries, tests, selects, judges, says, Answer}
use Rattle.cov_step.specs.Objects.{WriteOf}
use Rattle.cov_streams.specs.Runs.{MeasureRun, CrossRun}
use Rattle.cov_streams.specs.Trials.{TryRun}
use Rattle.cov_streams.specs.Suites.{TestsRun}
use Rattle.cov_streams.specs.Retests.{SelectRun, JudgeRun}

-- a write, which leaves the others alone
pub record WriteRun {I O P G : Type 0} (sink : SinkOf O) (old : Streams I O P G) (bytes : List ℕ)
    (refusal : Option SinkError) (new : Streams I O P G) : Type 0 where
  pub wrote : WriteOf sink old.out bytes refusal new.out
  pub same : new ≡ streams old.input new.out old.plugins old.engine

-- input, output, plugins and engine; tests leave all but the plugins, and a try, a selection and
-- verdicts leave them alone
abbrev pub on_run : {I O P G : Type 0} → SourceOf I → SinkOf O → PluginOf P → EngineOf G
    → Moves Call Answer (Streams I O P G)
on_run source sink plugin engine old (spells words) answer new = ⊥
on_run source sink plugin engine old (checks bytes) reading new = ⊥
on_run source sink plugin engine old (reads name most) answer new = ⊥
on_run source sink plugin engine old (puts name bytes) refusal new = ⊥
on_run source sink plugin engine old (opens name script) answer new = ⊥
on_run source sink plugin engine old lists answer new = ⊥
on_run source sink plugin engine old (loads name) answer new = ⊥
on_run source sink plugin engine old (saves name content) refusal new = ⊥
on_run source sink plugin engine old (removes name) refusal new = ⊥
on_run source sink plugin engine old (makes texts) refusal new = ⊥
on_run source sink plugin engine old (writes bytes) refusal new =
    WriteRun sink old bytes refusal new
on_run source sink plugin engine old (crosses modules words budget) answer new =
    CrossRun source sink plugin engine old modules words budget answer new
on_run source sink plugin engine old (measures asked modules hook) answer new =
    MeasureRun source sink plugin engine old asked modules hook answer new
on_run source sink plugin engine old (tries modules words budget) answer new =
    TryRun old modules words budget answer new
on_run source sink plugin engine old (tests asked modules) answer new =
    TestsRun plugin old asked modules answer new
on_run source sink plugin engine old (selects budget before after) answer new =
    SelectRun old budget before after answer new
on_run source sink plugin engine old (judges budget modules) answer new =
    JudgeRun old budget modules answer new
on_run source sink plugin engine old (says text) answer new = ⊥
