-- Runs as calls of a command.
--     request_of, hook_meant    what a run is asked, and its hook, as `measure` is told them
--     ended_of, answer_of       what it answers, likewise
--     ToldRun                   the data of the events that any engine told
--     MeasureRun                a run that is measured
--     arcs_asked, alone         what `arcs` asks, and streams without their plugins
--     CrossRun                  a run whose arcs are listed
use Rattle.std.specs.Prelude.{◌≡◌, ℕ, true, false, List, [], Option, None, option_map, Result, Ok, Err, IfOk, OnErr, ◌<◌, length}
use Rattle.cov_outside.specs.declared.sink.Sink.{Ghosts as SinkOf}
use Rattle.cov_outside.specs.declared.source.Source.{Ghosts as SourceOf}
use Rattle.cov_contexts.specs.declared.plugins.Plugin.{Ghosts as PluginOf}
use Rattle.py_builtins.specs.declared.fault.RunFault.{RunFault}
use Rattle.py_code.specs.declared.code.Programs.{Programs}
use Rattle.py_machine.specs.declared.engine.Engine.{Ghosts as EngineOf}
use Rattle.py_meaning.specs.Modules.{LoadedModule, body_of}
use Rattle.py_syntax.specs.Prediction.{Arc, possible}
use Rattle.py_syntax.specs.Tree.{Text}
use Rattle.cov_hook.specs.View.{state_of}
use Rattle.cov_hook.specs.declared.hook.Hook.{Hook}
use Rattle.cov_hook_laws.specs.MeantHooks.{MeantHook, meant_opened}
use Rattle.cov_measure.specs.Measures.{MeasureOf, Streams, streams, sources_of}
use Rattle.cov_measure.specs.Measuring.{AreMeasured}
use Rattle.cov_measure.specs.Requests.{Asked as Request, Ended}
use Rattle.cov_measure.specs.Told.{WasRefused, WasTold, code_hook}
use Rattle.cov_measure_laws.specs.Meant.{IsFaithfulHook, meant_of}
use Rattle.cov_measure_laws.specs.Units.{program_units}
use Rattle.cov_recorder.specs.Plan.{plan_of, set_at}
use Rattle.cov_step.specs.Calls.{HookFiles, Asked, Ran}

-- what a run is asked, as `measure` is told it
abbrev pub request_of : Asked → Request
request_of a = record {
  arcs = a.arcs;
  context = a.context;
  by_name = a.by_name;
  words = a.words;
  budget = a.budget;
}

-- a hook of files is what these mean
abbrev pub hook_meant : HookFiles → MeantHook
hook_meant h = meant_opened h.modules h.script h.function

-- what a run came to, as `measure` says it
abbrev pub ended_of : Ran → Ended
ended_of r = record { outcome = r.outcome; steps = r.steps; rows = r.rows }

-- an answer, likewise
abbrev pub answer_of : Result Ran RunFault → Result Ended RunFault
answer_of (Ok r) = Ok (ended_of r)
answer_of (Err fault) = Err fault

-- Whoever runs it: there is code of these modules and of this hook, and there are the sets of what
-- is possible in each module. The data are those of the events that the engine told, under the
-- labels of that hook and of the plugins. Where the run was given up the data are lost, and the
-- plugins are as the events left them.
pub record ToldRun {I O P G : Type 0} (plugin : PluginOf P) (engine : EngineOf G)
    (old : Streams I O P G) (asked : Request) (ms : List LoadedModule) (hook : Option MeantHook)
    (answer : Result Ended RunFault) (new : Streams I O P G) : Type 0 where
  pub programs : Programs
  pub sets : List (List Arc)
  pub trees : List LoadedModule
  pub code : Option Hook
  pub measured : AreMeasured programs sets ms
  pub exact : (m : ℕ) → m < length ms → set_at sets m ≡ possible (body_of ms m)
  pub faithful : IsFaithfulHook state_of trees code
  pub meant : meant_of state_of trees code ≡ hook
  pub told : IfOk answer (λ m. WasTold code_hook plugin
      (plan_of (program_units programs.modules.items) sets asked.arcs asked.context)
      (sources_of code old.plugins asked.by_name)
      (λ calls. engine.told old.engine calls new.engine) m.rows new.plugins)
  pub refused : OnErr answer (WasRefused code_hook plugin
      (plan_of (program_units programs.modules.items) sets asked.arcs asked.context)
      (sources_of code old.plugins asked.by_name) (new.engine ≡ old.engine)
      (λ calls. engine.told old.engine calls new.engine) new.plugins)

-- a run that is measured: what `measure` says of it, of true engines and of all
pub record MeasureRun {I O P G : Type 0} (source : SourceOf I) (sink : SinkOf O)
    (plugin : PluginOf P) (engine : EngineOf G) (old : Streams I O P G) (asked : Asked)
    (ms : List LoadedModule) (hook : Option HookFiles) (answer : Result Ran RunFault)
    (new : Streams I O P G) : Type 0 where
  pub run :
      MeasureOf source sink plugin engine old (request_of asked) ms (option_map hook_meant hook)
      (answer_of answer) new
  pub told :
      ToldRun plugin engine old (request_of asked) ms (option_map hook_meant hook)
      (answer_of answer) new

-- what a run is asked whose arcs are listed: no context and no rule for names
abbrev pub arcs_asked : List Text → ℕ → Request
arcs_asked words budget = record {
  arcs = true;
  context = [];
  by_name = false;
  words = words;
  budget = budget;
}

-- streams without their plugins
abbrev pub alone : {I O P G : Type 0} → Streams I O P G → Streams I O P G
alone s = streams s.input s.out [] s.engine

-- A run whose arcs are listed: it is measured with no hook and none of the plugins.
pub record CrossRun {I O P G : Type 0} (source : SourceOf I) (sink : SinkOf O)
    (plugin : PluginOf P) (engine : EngineOf G) (old : Streams I O P G) (ms : List LoadedModule)
    (words : List Text) (budget : ℕ) (answer : Result Ran RunFault) (new : Streams I O P G)
    : Type 0 where
  pub run :
      MeasureOf source sink plugin engine (alone old) (arcs_asked words budget) ms None
      (answer_of answer) (alone new)
  pub told :
      ToldRun plugin engine (alone old) (arcs_asked words budget) ms None (answer_of answer)
      (alone new)
  pub plugins : new.plugins ≡ old.plugins
