-- What a call of `suite` does, by what the modules mean.
--     AreTested           trees of programs whose tests are run
--     IsMeantData         the data that items mean
--     SuiteOf             a call
use Rattle.std.specs.Prelude.{◌≡◌, ℕ, ◌<◌, Bool, List, length, All, Contains, Result}
use Rattle.cov_contexts.specs.declared.plugins.Plugin.{Ghosts as PluginOf}
use Rattle.cov_contexts.specs.Sources.{Sources}
use Rattle.cov_data.specs.DataSet.{Text, DataSet}
use Rattle.cov_recorder.specs.Plan.{Named, set_at}
use Rattle.cov_recorder_laws.specs.Laws.{HasTextLines}
use Rattle.cov_hook_laws.specs.MeantHooks.{MeantHook}
use Rattle.cov_measure_laws.specs.Foreseen.{HasForeseen}
use Rattle.cov_measure_laws.specs.Meant.{tree_plan, MeantData}
use Rattle.cov_measure_laws.specs.Units.{program_units, HaveSamePaths}
use Rattle.cov_measure_laws.specs.Whole.{HasAllSteps}
use Rattle.py_code.specs.declared.code.Programs.{Programs}
use Rattle.py_code.specs.Loaded.{modules_of}
use Rattle.py_compile.specs.ProgramRuns.{AreFaithful}
use Rattle.py_meaning.specs.Activations.{Items}
use Rattle.py_meaning.specs.Crossings.{crossings, lines_crossed}
use Rattle.py_meaning.specs.Modules.{LoadedModule, body_of}
use Rattle.py_syntax.specs.Prediction.{Arc, possible}
use Rattle.py_compile_laws.specs.Traces.{AreWellFormed}
use Rattle.cov_suite.specs.declared.results.SuiteError.{SuiteError}
use Rattle.cov_suite.specs.Results.{suite_of}
use Rattle.cov_suite.specs.Rows.{sources_of}
use Rattle.cov_suite.specs.Suites.{IsSuiteOf}
use Rattle.cov_suite.specs.Views.{SuiteView}

-- What is asked of trees: the programs are faithful code of them on the same paths, their lines are
-- those that a text may have, the units are those of the programs, and each set holds what is
-- possible in its module.
pub record AreTested (ps : Programs) (units : List (List Named)) (sets : List (List Arc))
    (ms : List LoadedModule) : Type 0 where
  pub faithful : AreFaithful (modules_of ps) ms
  pub paths : HaveSamePaths ps.modules.items ms
  pub well_formed : AreWellFormed ms
  pub lines : All HasTextLines ms
  pub named : units ≡ program_units ps.modules.items
  pub whole : (m : ℕ) → m < length ms → (a : Arc) → Contains (possible (body_of ms m)) a
      → Contains (set_at sets m) a

-- The data are those that the items mean, under labels of these plugins and of the name rule, and
-- these plugins are left. The arcs over all contexts, or the lines, are those that the items cross,
-- and the text foresees each of them.
pub record IsMeantData {P : Type 0} (plugin : PluginOf P) (ms : List LoadedModule) (arcs : Bool)
    (fixed : Text) (old : List P) (items : Items) (d : DataSet) (new : List P) : Type 0 where
  pub left : Sources MeantHook P
  pub rows : MeantData plugin ms arcs fixed (sources_of old) items d left
  pub steps : HasAllSteps (tree_plan ms arcs fixed) (λ m. lines_crossed (crossings ms m items)) d
  pub foreseen : HasForeseen (tree_plan ms arcs fixed) ms items d
  pub left_plugins : new ≡ left.plugins

-- The tests of these modules are run, each on the world that the import leaves. The results are
-- those that they mean, and so are the data: of arcs or of lines, under this static context.
abbrev pub SuiteOf : {P : Type 0} → PluginOf P → List LoadedModule → Bool → Text → ℕ → List P
    → Result SuiteView SuiteError → List P → Type 0
SuiteOf plugin ms arcs fixed budget old answer new =
    IsSuiteOf plugin (IsMeantData plugin ms arcs fixed) (suite_of ms budget) old answer new
