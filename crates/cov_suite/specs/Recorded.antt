-- What a tracer took of an import and of a test, as the code runs them.
--     IsStep, TookAll        events that a recorder took
--     WasRecorded            data of events that a new recorder took
--     is_finished            whether an import finished
--     ImportRan, TestRan     the import and a test under a tracer
--     Imports, Tests         the same under a recorder, with data and plugins
--     AllTests               tests, one after another
use Rattle.std.specs.Prelude.{◌≡◌, ℕ, Bool, true, false, List, [], map}
use Rattle.std.specs.List.{fold}
use Rattle.cov_event.specs.declared.ask.Nobody.{Nobody}
use Rattle.cov_event.specs.declared.event.Event.{Event}
use Rattle.cov_event.specs.Moves.{Takes}
use Rattle.cov_contexts.specs.declared.plugins.Plugin.{Ghosts as PluginOf}
use Rattle.cov_data.specs.DataSet.{DataSet, union}
use Rattle.cov_recorder.specs.declared.recorder.Recorder.{Recorder}
use Rattle.cov_recorder.specs.Asking.{asks}
use Rattle.cov_recorder.specs.Labels.{IsNext}
use Rattle.cov_recorder.specs.Plan.{Plan}
use Rattle.cov_recorder.specs.Recording.{at_first}
use Rattle.cov_recorder.specs.States.{state_of}
use Rattle.py_builtins.specs.Outcomes.{Outcome, finished, exited, raised, cut}
use Rattle.py_builtins.specs.World.{World}
use Rattle.py_code.specs.Programs.{run}
use Rattle.py_code.specs.Slots.{by_slots}
use Rattle.py_code.specs.Units.{Module}
use Rattle.py_syntax.specs.Tree.{Text}
use Rattle.cov_suite.specs.declared.runs.Ended.{Ended}
use Rattle.cov_suite.specs.Results.{TestView, import_of_code, result_of_code}
use Rattle.cov_suite.specs.Rows.{Line, lines_in, InTurn, nobody, sources_of}

-- a recorder took an event
abbrev pub IsStep : {P : Type 0} → PluginOf P → Recorder Nobody P → Event → Recorder Nobody P
    → Type 0
IsStep plugin before event after =
    IsNext (asks nobody plugin) (state_of before) event (state_of after)

-- it took these, one after another
abbrev pub TookAll : {P : Type 0} → PluginOf P → Recorder Nobody P → List Event → Recorder Nobody P
    → Type 0
TookAll plugin before events after = Takes (IsStep plugin) before events after

-- A new recorder over these plugins took these events. The data are those that it keeps, of the
-- kind of its plan, and the plugins are those that it has then.
pub record WasRecorded {P : Type 0} (plugin : PluginOf P) (plan : Plan) (old : List P)
    (events : List Event) (d : DataSet) (new : List P) : Type 0 where
  pub before : Recorder Nobody P
  pub after : Recorder Nobody P
  pub first : state_of before ≡ (at_first plan, sources_of old)
  pub took : TookAll plugin before events after
  pub kind : d.arcs ≡ plan.arcs
  pub kept : d ≡ (state_of after).0.data
  pub left : new ≡ (state_of after).1.plugins

-- whether an import finished
abbrev pub is_finished : Outcome → Bool
is_finished finished = true
is_finished (exited status text) = false
is_finished (raised kind text) = false
is_finished cut = false

-- The script ran on a world, with empty input, and left another one. Its events went to a tracer.
pub record ImportRan {T : Type 0} (moves : T → Event → T → Type 0) (ms : List Module) (budget : ℕ)
    (w left : World) (before after : T) (done : Bool) : Type 0 where
  pub outcome : done ≡ is_finished (run (by_slots ms) ms w [] budget).outcome
  pub world : (run (by_slots ms) ms w [] budget).world ≡ left
  pub took : Takes moves before (run (by_slots ms) ms w [] budget).events after

-- what a test of this name ended with
abbrev pub ended_view : Text → Ended → TestView
ended_view name ended =
    record { name = name; end = ended.end; output = ended.output.items; steps = ended.steps }

-- A test was called on a world. Its events went to a tracer.
pub record TestRan {T : Type 0} (moves : T → Event → T → Type 0) (ms : List Module) (budget : ℕ)
    (w : World) (name : Text) (before after : T) (ended : Ended) : Type 0 where
  pub result : ended_view name ended ≡ (result_of_code ms w budget name).0
  pub took : Takes moves before (result_of_code ms w budget name).1 after

-- The import ran on a new world, with these data. These plugins are left.
pub record Imports {P : Type 0} (plugin : PluginOf P) (plan : Plan) (ms : List Module) (budget : ℕ)
    (old : List P) (done : Bool) (left : World) (d : DataSet) (new : List P) : Type 0 where
  pub outcome : done ≡ is_finished (import_of_code ms budget).outcome
  pub world : (import_of_code ms budget).world ≡ left
  pub recorded : WasRecorded plugin plan old (import_of_code ms budget).events d new

-- A test was called on a world, with these data. These plugins are left.
pub record Tests {P : Type 0} (plugin : PluginOf P) (plan : Plan) (ms : List Module) (budget : ℕ)
    (w : World) (name : Text) (old : List P) (ended : Ended) (d : DataSet) (new : List P)
    : Type 0 where
  pub result : ended_view name ended ≡ (result_of_code ms w budget name).0
  pub recorded : WasRecorded plugin plan old (result_of_code ms w budget name).1 d new

-- These tests were called, one after another. The import has these data, and those of the tests
-- were added to others.
pub record AllTests {P : Type 0} (plugin : PluginOf P) (plan : Plan) (of_import : DataSet)
    (old : List P) (done : List (TestView × List Event)) (tests : List TestView)
    (reached : List (List Line)) (first all : DataSet) (new : List P) : Type 0 where
  pub results : tests ≡ map (λ t. t.0) done
  pub of_tests : List DataSet
  pub data_of : InTurn (WasRecorded plugin plan) old (map (λ t. t.1) done) of_tests new
  pub lines : reached ≡ map (λ d. lines_in (union d of_import)) of_tests
  pub rows : all ≡ fold union first of_tests
