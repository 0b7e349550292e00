-- A run that is measured, as a call.
use Rattle.std.proofs.Common.{◌≡◌, ℕ, List, [], Option, Some, None, option_map, Result, Ok, Err, IfOk, OnErr, refl, sym, ap, subst}
use Rattle.std.specs.List.{Contains}
use Rattle.cov_contexts.specs.declared.plugins.Plugin.{Ghosts as PluginOf}
use Rattle.cov_outside.specs.declared.sink.Sink.{Ghosts as SinkOf}
use Rattle.cov_outside.specs.declared.source.Source.{Ghosts as SourceOf}
use Rattle.py_builtins.specs.declared.fault.RunFault.{RunFault}
use Rattle.py_machine.specs.declared.engine.Engine.{Ghosts as EngineOf}
use Rattle.py_meaning.specs.Modules.{LoadedModule}
use Rattle.py_syntax.specs.Prediction.{Arc}
use Rattle.py_syntax.specs.Tree.{Text}
use Rattle.py_compile_laws.specs.Traces.{AreWellFormed}
use Rattle.cov_hook.specs.View.{state_of}
use Rattle.cov_hook.specs.declared.hook.Hook.{Hook}
use Rattle.cov_hook_laws.specs.MeantHooks.{MeantHook}
use Rattle.cov_loaded_laws.specs.Loaded.{IsMeasurable}
use Rattle.cov_data.specs.DataSet.{DataSet}
use Rattle.cov_measure.specs.Measures.{MeasureOf, Streams, streams, sources_of}
use Rattle.cov_measure.specs.Measuring.{AreMeasured}
use Rattle.cov_measure.specs.Requests.{Asked as Request, Ended, asked_in, plain_answer}
use Rattle.cov_measure.specs.Told.{WasRefused, WasTold, code_hook}
use Rattle.cov_measure.specs.declared.request.Measured.{Measured}
use Rattle.cov_measure.specs.declared.request.RunRequest.{RunRequest}
use Rattle.cov_measure_laws.specs.Meant.{IsFaithfulHook, meant_of}
use Rattle.cov_measure_laws.specs.Units.{program_units}
use Rattle.cov_recorder.specs.Plan.{plan_of}
use Rattle.cov_run.specs.Loads.{loaded_modules}
use Rattle.cov_run.specs.declared.programs.Loaded.{Loaded}
use Rattle.cov_step.specs.Calls.{Asked, HookFiles}
use Rattle.cov_streams.specs.Runs.{hook_meant, answer_of, ToldRun, MeasureRun, arcs_asked, CrossRun}
use Rattle.cov_words.specs.Values.{Word}
use Rattle.cov_runs.specs.Hooks.{HookAs}
use Rattle.cov_runs.specs.Measured.{HoldPossible, ran_answer}
use Rattle.cov_runs.specs.Rests.{RunAs}

-- the trees of a hook's files
abbrev trees : Option HookFiles → List LoadedModule
trees None = []
trees (Some files) = files.modules

well : (hook : Option Hook) (files : Option HookFiles) → HookAs hook files → AreWellFormed (trees files)
well None None h = tt
well None (Some files) h = absurd h
well (Some hook) None h = absurd h
well (Some hook) (Some files) h = h.well_formed

faithful : (hook : Option Hook) (files : Option HookFiles) → HookAs hook files → IsFaithfulHook state_of (trees files) hook
faithful None None h = tt
faithful None (Some files) h = absurd h
faithful (Some hook) None h = absurd h
faithful (Some hook) (Some files) h = h.faithful

meant : (hook : Option Hook) (files : Option HookFiles) → HookAs hook files → meant_of state_of (trees files) hook ≡ option_map hook_meant files
meant None None h = refl
meant None (Some files) h = absurd h
meant (Some hook) None h = absurd h
meant (Some hook) (Some files) h = ap Some h.opened

answer-is : (result : Result Measured RunFault) → plain_answer result ≡ answer_of (ran_answer result)
answer-is (Ok m) = refl
answer-is (Err fault) = refl

module _ {I O P G : Type 0} (source : SourceOf I) (sink : SinkOf O) (plugin : PluginOf P) (engine : EngineOf G) where
  -- the same request, hook and answer
  measured-so : (old new : Streams I O P G) (ms : List LoadedModule) {q r : Request} {h k : Option MeantHook} {a b : Result Ended RunFault} → q ≡ r → h ≡ k → a ≡ b
      → MeasureOf source sink plugin engine old q ms h a new → MeasureOf source sink plugin engine old r ms k b new
  measured-so old new ms {q} {r} {h} {k} {a} {b} asks hooks answers m =
      subst (λ b. MeasureOf source sink plugin engine old r ms k b new) answers
      (subst (λ k. MeasureOf source sink plugin engine old r ms k a new) hooks
      (subst (λ r. MeasureOf source sink plugin engine old r ms h a new) asks m))

  -- of all trees of which the programs and the hook are faithful code
  abbrev pub IsMeasure : Loaded → List (List Arc) → Option Hook → Streams I O P G → Request → Result Measured RunFault → Streams I O P G → Type 0
  IsMeasure l sets hook old asked result new =
      (ms hs : List LoadedModule) → AreMeasured l.programs sets ms → AreWellFormed hs → IsFaithfulHook state_of hs hook
      → MeasureOf source sink plugin engine old asked ms (meant_of state_of hs hook) (plain_answer result) new

  -- what an engine told of code, of this request
  abbrev pub TellsOf : Loaded → List (List Arc) → Option Hook → Streams I O P G → Request → Result Measured RunFault → Streams I O P G → Type 0
  TellsOf l sets hook old asked result new =
      IfOk result (λ m. WasTold code_hook plugin (plan_of (program_units l.programs.modules.items) sets asked.arcs asked.context) (sources_of hook old.plugins asked.by_name)
      (λ calls. engine.told old.engine calls new.engine) m.rows new.plugins)

  abbrev pub RefusesOf : Loaded → List (List Arc) → Option Hook → Streams I O P G → Request → Result Measured RunFault → Streams I O P G → Type 0
  RefusesOf l sets hook old asked result new =
      OnErr result (WasRefused code_hook plugin (plan_of (program_units l.programs.modules.items) sets asked.arcs asked.context) (sources_of hook old.plugins asked.by_name)
      (new.engine ≡ old.engine) (λ calls. engine.told old.engine calls new.engine) new.plugins)

  told-so : (F : DataSet → Type 0) (result : Result Measured RunFault) → IfOk result (λ m. F m.rows) → IfOk (answer_of (ran_answer result)) (λ m. F m.rows)
  told-so F (Ok m) h = h
  told-so F (Err fault) h = tt

  refused-so : (Q : Type 0) (result : Result Measured RunFault) → OnErr result Q → OnErr (answer_of (ran_answer result)) Q
  refused-so Q (Ok m) h = tt
  refused-so Q (Err fault) h = h

  -- sets of what is possible hold it
  trees-of : (l : Loaded) → IsMeasurable l → (sets : List (List Arc)) → HoldPossible (loaded_modules l) sets → AreMeasured l.programs sets (loaded_modules l)
  trees-of l measurable sets holds = measurable.trees sets (λ m low a c. subst (λ s. Contains s a) (sym (holds m low)) c)

  -- of code of these trees and of this hook
  told-run : (old new : Streams I O P G) (l : Loaded) (sets : List (List Arc)) (hook : Option Hook) (trees : List LoadedModule) (meant : Option MeantHook) (ms : List LoadedModule) → AreMeasured l.programs sets ms → HoldPossible ms sets
      → IsFaithfulHook state_of trees hook → meant_of state_of trees hook ≡ meant → (result : Result Measured RunFault) {q r : Request} → q ≡ r → TellsOf l sets hook old q result new → RefusesOf l sets hook old q result new
      → ToldRun plugin engine old r ms meant (answer_of (ran_answer result)) new
  told-run old new l sets hook trees meant ms measured exact faithful is result {q} {r} same tells refuses = record {
    programs = l.programs;
    sets = sets;
    trees = trees;
    code = hook;
    measured = measured;
    exact = exact;
    faithful = faithful;
    meant = is;
    told = told-so (λ d. WasTold code_hook plugin (plan_of (program_units l.programs.modules.items) sets r.arcs r.context) (sources_of hook old.plugins r.by_name) (λ calls. engine.told old.engine calls new.engine) d new.plugins) result
        (subst (λ r. TellsOf l sets hook old r result new) same tells);
    refused = refused-so (WasRefused code_hook plugin (plan_of (program_units l.programs.modules.items) sets r.arcs r.context) (sources_of hook old.plugins r.by_name) (new.engine ≡ old.engine) (λ calls. engine.told old.engine calls new.engine) new.plugins) result
        (subst (λ r. RefusesOf l sets hook old r result new) same refuses);
  }

  pub measure-run : (old new : Streams I O P G) (request : RunRequest) (asked : Asked) (named : Option (Word × Word)) (script : Word) → RunAs request asked named script
      → (l : Loaded) → IsMeasurable l → (sets : List (List Arc)) → HoldPossible (loaded_modules l) sets
      → (hook : Option Hook) (files : Option HookFiles) → HookAs hook files → (result : Result Measured RunFault)
      → IsMeasure l sets hook old (asked_in request) result new → TellsOf l sets hook old (asked_in request) result new → RefusesOf l sets hook old (asked_in request) result new
      → MeasureRun source sink plugin engine old asked (loaded_modules l) files (ran_answer result) new
  measure-run old new request asked named script r l measurable sets holds hook files is result m tells refuses = record {
    run = measured-so old new (loaded_modules l) r.asks (meant hook files is) (answer-is result) (m (loaded_modules l) (trees files) (trees-of l measurable sets holds) (well hook files is) (faithful hook files is));
    told = told-run old new l sets hook (trees files) (option_map hook_meant files) (loaded_modules l) (trees-of l measurable sets holds) holds (faithful hook files is) (meant hook files is) result r.asks tells refuses;
  }

  pub cross-run : (input left_input : I) (out left_out : O) (none left plugins : List P) (g left_engine : G) (request : RunRequest) (words : List Text) (budget : ℕ) → asked_in request ≡ arcs_asked words budget
      → none ≡ [] → (l : Loaded) → IsMeasurable l → (sets : List (List Arc)) → HoldPossible (loaded_modules l) sets → (result : Result Measured RunFault)
      → IsMeasure l sets None (streams input out none g) (asked_in request) result (streams left_input left_out left left_engine)
      → TellsOf l sets None (streams input out none g) (asked_in request) result (streams left_input left_out left left_engine)
      → RefusesOf l sets None (streams input out none g) (asked_in request) result (streams left_input left_out left left_engine)
      → CrossRun source sink plugin engine (streams input out plugins g) (loaded_modules l) words budget (ran_answer result) (streams left_input left_out plugins left_engine)
  cross-run input left_input out left_out none left plugins g left_engine request words budget asks empty l measurable sets holds result m tells refuses = record {
    told = subst (λ ps. ToldRun plugin engine (streams input out [] g) (arcs_asked words budget) (loaded_modules l) None (answer_of (ran_answer result)) (streams left_input left_out ps left_engine)) from_none.plugins
        (subst (λ ps. ToldRun plugin engine (streams input out ps g) (arcs_asked words budget) (loaded_modules l) None (answer_of (ran_answer result)) (streams left_input left_out left left_engine)) empty
        (told-run (streams input out none g) (streams left_input left_out left left_engine) l sets None [] None (loaded_modules l) (trees-of l measurable sets holds) holds tt refl result asks tells refuses));
    run = subst (λ ps. MeasureOf source sink plugin engine (streams input out [] g) (arcs_asked words budget) (loaded_modules l) None (answer_of (ran_answer result)) (streams left_input left_out ps left_engine)) from_none.plugins from_none;
    plugins = refl;
  }
    where
      from_none : MeasureOf source sink plugin engine (streams input out [] g) (arcs_asked words budget) (loaded_modules l) None (answer_of (ran_answer result)) (streams left_input left_out left left_engine)
      from_none = measured-so (streams input out [] g) (streams left_input left_out left left_engine) (loaded_modules l) asks refl (answer-is result)
          (subst (λ ps. MeasureOf source sink plugin engine (streams input out ps g) (asked_in request) (loaded_modules l) None (plain_answer result) (streams left_input left_out left left_engine)) empty
          (m (loaded_modules l) [] (trees-of l measurable sets holds) tt tt))
