-- What a run comes to that a recorder was told.
--     AreMeasured             trees of programs that are measured
--     AreMeasurable           the same with a hook and its trees
--     IsMeasuring             the same with a new recorder
--     RanMeasured             a run that ended, and its data
--     IsSteady                trees of programs, and a plan that is whole
--     HasRunSteps             the arcs or lines over all contexts, and what the text tells of them
--     GainsSome               an output that gained a first part
use Rattle.std.specs.Prelude.{◌≡◌, ℕ, ◌<◌, Bool, List, length, All, Contains}
use Rattle.cov_outside.specs.Prefixes.{GainsPrefix}
use Rattle.cov_event.specs.declared.ask.Ask.{Ghosts as HookOf}
use Rattle.cov_contexts.specs.declared.plugins.Plugin.{Ghosts as PluginOf}
use Rattle.cov_contexts.specs.Sources.{Sources}
use Rattle.cov_data.specs.DataSet.{Text as Bytes, DataSet}
use Rattle.cov_arcs.specs.Laws.{firsts_of}
use Rattle.py_code.specs.declared.code.Programs.{Programs}
use Rattle.py_code.specs.Loaded.{modules_of}
use Rattle.py_compile.specs.ProgramRuns.{AreFaithful}
use Rattle.py_machine.specs.declared.outcome.Ran.{Ran}
use Rattle.py_machine.specs.Outcomes.{plain_outcome}
use Rattle.py_meaning.specs.Activations.{Items}
use Rattle.py_meaning.specs.Crossings.{crossings, lines_crossed}
use Rattle.py_meaning.specs.Modules.{LoadedModule, body_of}
use Rattle.py_meaning.specs.Program.{Run}
use Rattle.py_prediction_laws.specs.Sound.{IsProper}
use Rattle.py_syntax.specs.Prediction.{Arc, possible}
use Rattle.py_compile_laws.specs.Traces.{AreWellFormed}
use Rattle.cov_hook.specs.States.{HookState}
use Rattle.cov_recorder.specs.Plan.{Plan, set_at}
use Rattle.cov_recorder.specs.Recording.{Recording, at_first}
use Rattle.cov_recorder_laws.specs.Laws.{first_lines, HasTextLines}
use Rattle.cov_measure_laws.specs.Foreseen.{HasForeseen}
use Rattle.cov_measure_laws.specs.Meant.{MeantData, meant_sources, IsFaithfulHook, IsHookOfCode, IsPlanOf}
use Rattle.cov_measure_laws.specs.Units.{HaveSamePaths}
use Rattle.cov_measure_laws.specs.Whole.{IsWhole, HasAllSteps}

-- What is asked of trees where programs are measured: the programs are faithful code of them on the
-- same paths, their lines are those that a text may have, and each set holds what is possible in
-- its module.
pub record AreMeasured (ps : Programs) (sets : List (List Arc)) (ms : List LoadedModule)
    : Type 0 where
  pub faithful : AreFaithful (modules_of ps) ms
  pub paths : HaveSamePaths ps.modules.items ms
  pub well_formed : AreWellFormed ms
  pub lines : All HasTextLines ms
  pub whole : (m : ℕ) → m < length ms → (a : Arc) → Contains (possible (body_of ms m)) a
      → Contains (set_at sets m) a

-- What is asked of a hook besides: it answers as code does that is faithful to its trees.
pub record AreMeasurable {A P : Type 0} (hook : HookOf A) (ps : Programs)
    (sets : List (List Arc)) (ms hs : List LoadedModule) (code : A → HookState)
    (sources : Sources A P) : Type 0 where
  pub trees : AreMeasured ps sets ms
  pub of_code : IsHookOfCode hook code
  pub hook_well : AreWellFormed hs
  pub hook_faithful : IsFaithfulHook code hs sources.hook

-- What is asked of a recorder: it is a new one of the plan of these trees.
pub record IsMeasuring {A P : Type 0} (hook : HookOf A) (ps : Programs) (ms hs : List LoadedModule)
    (arcs : Bool) (fixed : Bytes) (code : A → HookState) (old : Recording × Sources A P)
    : Type 0 where
  pub plan : Plan
  pub made : IsPlanOf ms arcs fixed plan
  pub first : old ≡ (at_first plan, old.1)
  pub faithful : AreFaithful (modules_of ps) ms
  pub well_formed : AreWellFormed ms
  pub proper : All IsProper ms
  pub lines : All HasTextLines ms
  pub of_code : IsHookOfCode hook code
  pub hook_well : AreWellFormed hs
  pub hook_faithful : IsFaithfulHook code hs old.1.hook

-- A run of these modules ended so with this input, with these data, and these sources of labels and
-- this rest of the input are left.
pub record RanMeasured {P : Type 0} (plugin : PluginOf P) (ms hs : List LoadedModule) (arcs : Bool)
    (fixed : Bytes) {A : Type 0} (code : A → HookState) (old new : Sources A P) (run : Run)
    (ran : Ran) (d : DataSet) (wrote : List ℕ → Type 0) (rest : List ℕ) : Type 0 where
  pub outcome : plain_outcome ran.outcome ≡ run.outcome
  pub steps : ran.steps ≡ run.steps
  pub rows : MeantData plugin ms arcs fixed (meant_sources code hs old) run.items d
      (meant_sources code hs new)
  pub out : wrote run.out
  pub left : rest ≡ run.input

-- Programs that are faithful code of these trees, and a whole plan with the units of these.
pub record IsSteady (ps : Programs) (ms : List LoadedModule) (plan : Plan) : Type 0 where
  pub faithful : AreFaithful (modules_of ps) ms
  pub well_formed : AreWellFormed ms
  pub proper : All IsProper ms
  pub lines : All HasTextLines ms
  pub firsts : first_lines plan ≡ firsts_of ms
  pub whole : IsWhole plan ms

-- The arcs over all contexts, or the lines, are those that the items cross; and each is foreseen by
-- the text of its module.
pub record HasRunSteps (plan : Plan) (ms : List LoadedModule) (items : Items) (d : DataSet)
    : Type 0 where
  pub all : HasAllSteps plan (λ m. lines_crossed (crossings ms m items)) d
  pub foreseen : HasForeseen plan ms items d

-- an output that tells gained the first of these bytes
abbrev pub GainsSome : Type 0 → List ℕ → List ℕ → List ℕ → Type 0
GainsSome tells before after bytes = tells → GainsPrefix before after bytes
