-- The data that a run of modules means, under labels of a hook that is meant by its trees.
--     tree_plan                  what is known of modules, without any set
--     meant_hook                 a hook over trees, as one who is asked
--     MeantData                  the data of a run
--     meant_of, meant_sources    a hook of code, as the one that its trees mean
--     IsFaithfulHook             the code of the hook is faithful to these trees
--     IsHookOfCode               a hook that answers as code does
--     MeantDataLaw               data under labels of code are those under its trees' labels
--     IsPlanOf                   a plan of programs and of sets that hold what is possible
--     KeepsMeantData             a recorder keeps the data that items mean
--     ModulesMeantLaw, CallMeantLaw    of each run
use Rattle.std.specs.Prelude.{◌≡◌, ℕ, ◌<◌, Bool, List, [], length, All, Contains, Option, Some, None}
use Rattle.cov_event.specs.declared.ask.Ask.{Ghosts as HookOf}
use Rattle.cov_event.specs.Moves.{Takes}
use Rattle.cov_contexts.specs.declared.plugins.Plugin.{Ghosts as PluginOf}
use Rattle.cov_contexts.specs.Sources.{Sources}
use Rattle.cov_data.specs.DataSet.{Text, DataSet}
use Rattle.py_code.specs.declared.code.Programs.{Programs}
use Rattle.py_code.specs.Loaded.{modules_of}
use Rattle.py_compile.specs.ProgramRuns.{AreFaithful}
use Rattle.py_syntax.specs.Prediction.{Arc, possible}
use Rattle.py_syntax.specs.Tree as tree
use Rattle.py_builtins.specs.World.{World}
use Rattle.py_meaning.specs.Activations.{Items}
use Rattle.py_meaning.specs.Events.{events_in}
use Rattle.py_meaning.specs.Modules.{LoadedModule, body_of}
use Rattle.py_meaning.specs.Program.{run_modules, Request, called}
use Rattle.py_prediction_laws.specs.Sound.{IsProper}
use Rattle.py_compile_laws.specs.Traces.{AreWellFormed}
use Rattle.cov_hook.specs.Questions.{Answers}
use Rattle.cov_hook.specs.States.{HookState}
use Rattle.cov_hook_laws.specs.Laws.{with_trees}
use Rattle.cov_hook_laws.specs.MeantHooks.{MeantHook, MeansAnswer, LeavesOff}
use Rattle.cov_recorder.specs.Asking.{asks}
use Rattle.cov_recorder.specs.Plan.{Plan, plan_of, set_at}
use Rattle.cov_recorder.specs.Recording.{Recording, at_first}
use Rattle.cov_recorder.specs.Labels.{IsNext}
use Rattle.cov_recorder_laws.specs.Laws.{HasTextLines}
use Rattle.cov_measure_laws.specs.Units.{tree_units, program_units, HaveSamePaths}
use Rattle.cov_measure_laws.specs.Whole.{IsDataOf}

-- the units of modules, the kind of the data and the static context; no set is known
abbrev pub tree_plan : List LoadedModule → Bool → Text → Plan
tree_plan ms arcs fixed =
    record { units = tree_units ms; sets = []; arcs = arcs; fixed = fixed }

-- its answers, and a refused question, are those that its trees mean
abbrev pub meant_hook : HookOf MeantHook
meant_hook = record { moves = MeansAnswer; refused = LeavesOff }

-- What items in these modules mean as data. The sources of labels, of which the hook is given by
-- its trees, go from one state to another. Neither code nor a set stands in that.
abbrev pub MeantData : {P : Type 0} → PluginOf P → List LoadedModule → Bool → Text
    → Sources MeantHook P → Items → DataSet → Sources MeantHook P → Type 0
MeantData plugin ms arcs fixed old items d new =
    IsDataOf (asks meant_hook plugin) (tree_plan ms arcs fixed) old (events_in items) d new

-- a hook of code, with its trees in place of the code
abbrev pub meant_of : {A : Type 0} → (A → HookState) → List LoadedModule → Option A
    → Option MeantHook
meant_of state hs None = None
meant_of state hs (Some a) = Some (with_trees hs (state a))

-- sources of labels with that hook
abbrev pub meant_sources : {A P : Type 0} → (A → HookState) → List LoadedModule → Sources A P
    → Sources MeantHook P
meant_sources state hs s = record {
  hook = meant_of state hs s.hook;
  plugins = s.plugins;
  by_name = s.by_name;
}

-- the hook's code is faithful to these trees, if there is a hook
abbrev pub IsFaithfulHook : {A : Type 0} → (A → HookState) → List LoadedModule → Option A → Type 0
IsFaithfulHook state hs None = Unit {0}
IsFaithfulHook state hs (Some a) = AreFaithful (state a).modules hs

-- The states of a hook are states of code, and it answers as that code does.
abbrev pub IsHookOfCode : {A : Type 0} → HookOf A → (A → HookState) → Type 0
IsHookOfCode {A} hook state =
    (old new : A) («module» function : List ℕ) (label : Option (List ℕ))
    → hook.moves old «module» function label new
    → Answers (state old) «module» function label (state new)

-- Data of events, under labels of which a hook of code gives some: they are those under the labels
-- that its trees mean. It stays faithful to them.
abbrev pub MeantDataLaw : {A P : Type 0} → HookOf A → PluginOf P → Type 0
MeantDataLaw {A} {P} hook plugin =
    (state : A → HookState) → IsHookOfCode hook state
    → (hs : List LoadedModule) → AreWellFormed hs
    → (ms : List LoadedModule) (plan : Plan) → plan.units ≡ tree_units ms
    → (old new : Sources A P) (items : Items) (d : DataSet) → IsFaithfulHook state hs old.hook
    → IsDataOf (asks hook plugin) plan old (events_in items) d new
    → MeantData plugin ms plan.arcs plan.fixed (meant_sources state hs old) items d
    (meant_sources state hs new)
    × IsFaithfulHook state hs new.hook

-- A plan that is made of programs, faithful code of these modules on the same paths, and of sets
-- that hold what is possible in them.
pub record IsPlanOf (ms : List LoadedModule) (arcs : Bool) (fixed : Text) (plan : Plan)
    : Type 0 where
  pub programs : Programs
  pub sets : List (List Arc)
  pub faithful : AreFaithful (modules_of programs) ms
  pub paths : HaveSamePaths programs.modules.items ms
  pub made : plan ≡ plan_of (program_units programs.modules.items) sets arcs fixed
  pub whole : (m : ℕ) → m < length ms → (a : Arc) → Contains (possible (body_of ms m)) a
      → Contains (set_at sets m) a

-- A recorder of such a plan that took the events of these items keeps the data that they mean.
abbrev pub KeepsMeantData : {S A P : Type 0} → HookOf A → PluginOf P
    → (S → Recording × Sources A P) → List LoadedModule → Items → Type 0
KeepsMeantData {S} {A} {P} hook plugin state ms items =
    (code : A → HookState) → IsHookOfCode hook code
    → (hs : List LoadedModule) → AreWellFormed hs
    → (arcs : Bool) (fixed : Text) (plan : Plan) → IsPlanOf ms arcs fixed plan
    → (sources : Sources A P) → IsFaithfulHook code hs sources.hook
    → (old new : S) → state old ≡ (at_first plan, sources)
    → Takes (λ before event later.
    IsNext (asks hook plugin) (state before) event (state later)) old (events_in items) new
    → MeantData plugin ms arcs fixed (meant_sources code hs sources) items (state new).0.data
    (meant_sources code hs (state new).1)

-- Within any budget: of one or more modules,
abbrev pub ModulesMeantLaw : {S A P : Type 0} → HookOf A → PluginOf P
    → (S → Recording × Sources A P) → Type 0
ModulesMeantLaw hook plugin state =
    (ms : List LoadedModule) → 0 < length ms → All HasTextLines ms → All IsProper ms
    → (words : List tree.Text) (input : List ℕ) (budget : ℕ)
    → KeepsMeantData hook plugin state ms (run_modules ms words input budget).items

-- and of one call.
abbrev pub CallMeantLaw : {S A P : Type 0} → HookOf A → PluginOf P
    → (S → Recording × Sources A P) → Type 0
CallMeantLaw hook plugin state =
    (ms : List LoadedModule) → All HasTextLines ms → All IsProper ms
    → (w : World) (input : List ℕ) (r : Request) (budget : ℕ)
    → KeepsMeantData hook plugin state ms (called ms w input r budget).items
