-- What a call of `measure` does, as a relation of what was before it and what is after it.
--     sources_of             who gives labels
--     MeasuredAs             a run that ended, with its data
--     Streams                input, output, plugins and engine
--     MeasureOf              a call
use Rattle.std.specs.Prelude.{◌≡◌, ℕ, ◌≤◌, Bool, List, Option, Result, IfOk, OnErr, IsErrOf}
use Rattle.cov_outside.specs.Counts.{Rose}
use Rattle.cov_outside.specs.declared.sink.Sink.{Ghosts as SinkOf}
use Rattle.cov_outside.specs.declared.source.Source.{Ghosts as SourceOf}
use Rattle.cov_contexts.specs.declared.plugins.Plugin.{Ghosts as PluginOf}
use Rattle.cov_contexts.specs.Sources.{Sources}
use Rattle.py_builtins.specs.declared.fault.RunFault.{RunFault}
use Rattle.py_builtins.specs.declared.fault.RunFault.TheVariants.{ReadFault, WriteFault}
use Rattle.py_builtins.specs.Inputs.{Wrote}
use Rattle.py_machine.specs.declared.engine.Engine.{Ghosts as EngineOf}
use Rattle.py_machine.specs.Told.{OnInput, OnInputUntil}
use Rattle.py_meaning.specs.Modules.{LoadedModule}
use Rattle.py_meaning.specs.Program.{Run, run_modules}
use Rattle.cov_hook_laws.specs.MeantHooks.{MeantHook}
use Rattle.cov_measure_laws.specs.Leaving.{AreLeft}
use Rattle.cov_measure_laws.specs.Meant.{tree_plan, MeantData}
use Rattle.cov_measure.specs.Requests.{Asked, Ended}
use Rattle.cov_measure.specs.Measuring.{HasRunSteps, GainsSome}

-- a hook or none, these plugins, and whether names give labels
abbrev pub sources_of : {A P : Type 0} → Option A → List P → Bool → Sources A P
sources_of hook plugins by_name =
    record { hook = hook; plugins = plugins; by_name = by_name }

-- A run of these modules ended so with this input. The data are those that it means, under the
-- labels of its sources, and these plugins and this rest of the input are left.
pub record MeasuredAs {P : Type 0} (plugin : PluginOf P) (asked : Asked) (ms : List LoadedModule)
    (old : Sources MeantHook P) (run : Run) (m : Ended) (plugins : List P)
    (wrote : List ℕ → Type 0) (rest : List ℕ) : Type 0 where
  pub outcome : m.outcome ≡ run.outcome
  pub steps : m.steps ≡ run.steps
  pub left_sources : Sources MeantHook P
  pub left_plugins : plugins ≡ left_sources.plugins
  pub rows : MeantData plugin ms asked.arcs asked.context old run.items m.rows left_sources
  pub out : wrote run.out
  pub left : rest ≡ run.input

-- what a call of `measure` is lent
pub record Streams (I O P G : Type 0) : Type 0 where
  pub input : I
  pub out : O
  pub plugins : List P
  pub engine : G

-- of these parts
abbrev pub streams : {I O P G : Type 0} → I → O → List P → G → Streams I O P G
streams input out plugins engine =
    record { input = input; out = out; plugins = plugins; engine = engine }

-- A run of these modules is measured, under labels of this hook or of none. Where the engine is
-- true it ends as the modules mean, with the data that they mean, on every input that agrees with
-- what was read; or it is given up after a first part of that. Whoever runs it, a fault comes only
-- where its count rose, and the plugins are those that didn't leave, in the states that their
-- answers gave.
pub record MeasureOf {I O P G : Type 0} (source : SourceOf I) (sink : SinkOf O)
    (plugin : PluginOf P) (engine : EngineOf G) (old : Streams I O P G) (asked : Asked)
    (ms : List LoadedModule) (hook : Option MeantHook) (answer : Result Ended RunFault)
    (new : Streams I O P G) : Type 0 where
  pub ended : engine.faithful
      → IfOk answer (λ m. OnInput source.tells (source.left old.input) (source.left new.input)
      (λ all rest. MeasuredAs plugin asked ms (sources_of hook old.plugins asked.by_name)
      (run_modules ms asked.words all asked.budget) m new.plugins
      (Wrote sink.tells (sink.contents old.out) (sink.contents new.out)) rest))
  pub steps : engine.faithful
      → IfOk answer (λ m. OnInput source.tells (source.left old.input) (source.left new.input)
      (λ all rest. HasRunSteps (tree_plan ms asked.arcs asked.context) ms
      (run_modules ms asked.words all asked.budget).items m.rows))
  pub given_up : engine.faithful
      → OnErr answer (OnInputUntil source.tells (source.left old.input) (source.left new.input)
      (λ all. GainsSome sink.tells (sink.contents old.out) (sink.contents new.out)
      (run_modules ms asked.words all asked.budget).out))
  pub plugins : AreLeft plugin old.plugins new.plugins
  pub reads : source.faults old.input ≤ source.faults new.input
  pub writes : sink.faults old.out ≤ sink.faults new.out
  pub read_fault :
      IsErrOf answer ReadFault → Rose (source.faults old.input) (source.faults new.input)
  pub write_fault :
      IsErrOf answer WriteFault → Rose (sink.faults old.out) (sink.faults new.out)
