-- What tests promise, over what the objects hold (`Held` of Told).
--     import_run, test_run, suite_runs    the import of modules, and each test after it
--     results_of                          what the tests come to
--     AreRecorded, paired                 the data that they recorded
--     SuitePromise                        their lines, their ending, and the data that are saved
use Rattle.std.specs.Prelude.{◌≡◌, ℕ, Bool, List, [], ◌∷◌, ◌++◌, map, Some, None}
use Rattle.std.specs.FinMap as finite
use Rattle.std.specs.List.{fold}
use Rattle.std.specs.Str.{chars}
use Rattle.cov_contexts.specs.declared.plugins.Plugin.{Ghosts as PluginOf}
use Rattle.py_builtins.specs.Outcomes.{finished}
use Rattle.py_meaning.specs.Modules.{LoadedModule}
use Rattle.py_syntax.specs.Tree.{Text}
use Rattle.cov_data.specs.DataSet.{DataSet, union}
use Rattle.cov_run.specs.Loading.{told_by, IsLoaded}
use Rattle.cov_step.specs.Calls.{Answered, TestsAsked, TestResult}
use Rattle.cov_step.specs.Testing.{tests_name, suite_lines, suite_answered}
use Rattle.cov_streams.specs.Suites.{result_of}
use Rattle.cov_suite.specs.Meant.{IsMeantData}
use Rattle.cov_suite.specs.Results.{words, import_of, suite_of}
use Rattle.cov_suite.specs.Rows.{InTurn}
use Rattle.cov_suite.specs.Tests.{tests_of}
use Rattle.cov_vault.specs.declared.vault.Content.TheVariants.{Good}
use Rattle.cov_words.specs.Values.{Word}
use Rattle.cov_headline.specs.Kept.{Recorded}
use Rattle.cov_headline.specs.Origins.{PlainRun, IsRecorded}
use Rattle.cov_headline.specs.Told.{Held}

-- the import of these modules, within this budget of steps
abbrev pub import_run : List LoadedModule → ℕ → PlainRun
import_run ms budget =
    record { modules = ms; words = words; input = []; budget = budget; test = None }

-- the call of a test after it
abbrev pub test_run : List LoadedModule → ℕ → Text → PlainRun
test_run ms budget name =
    record { modules = ms; words = words; input = []; budget = budget; test = Some name }

-- the import, and each test after it
abbrev pub suite_runs : List LoadedModule → ℕ → List PlainRun
suite_runs ms budget = import_run ms budget ∷ map (test_run ms budget) (tests_of ms)

-- the tests, in order, with how each ends
abbrev pub results_of : List LoadedModule → ℕ → List TestResult
results_of ms budget = map result_of (map (λ t. t.0) (suite_of ms budget).tests)

-- of each run the data at its place, of arcs or of lines
abbrev pub AreRecorded : (arcs : Bool) → List PlainRun → List DataSet → Type 0
AreRecorded arcs [] [] = Unit {0}
AreRecorded arcs [] (d ∷ ds) = ⊥
AreRecorded arcs (r ∷ rs) [] = ⊥
AreRecorded arcs (r ∷ rs) (d ∷ ds) =
    (d.arcs ≡ arcs) × IsRecorded r d × AreRecorded arcs rs ds

-- each run with its data
abbrev pub paired : List PlainRun → List DataSet → Recorded
paired [] ds = []
paired (r ∷ rs) [] = []
paired (r ∷ rs) (d ∷ ds) = (r, d) ∷ paired rs ds

-- The import of the file's modules finished. Each test was called on the world that it left, and the
-- lines tell how each ended, in order. The data of the import and of each test are those that they
-- mean, under the labels of the plugins and of the names of tests. The union of them is saved.
pub record SuitePromise {P : Type 0} (plugin : PluginOf P) (asked : TestsAsked) (own file : Word)
    (old : Held P) (a : Answered) (new : Held P) : Type 0 where
  pub modules : List LoadedModule
  pub loaded : IsLoaded (told_by old.files (chars file)) (chars file) tests_name modules
  pub imported : (import_of modules asked.budget).outcome ≡ finished
  pub printed : new.out ≡ old.out ++ suite_lines (results_of modules asked.budget)
  pub ended : a ≡ suite_answered (results_of modules asked.budget)
  pub of_import : DataSet
  pub of_tests : List DataSet
  pub recorded :
      AreRecorded asked.arcs (suite_runs modules asked.budget) (of_import ∷ of_tests)
  pub labelled :
      InTurn (IsMeantData plugin modules asked.arcs asked.context) old.plugins
      ((suite_of modules asked.budget).at_import
      ∷ map (λ t. t.1) (suite_of modules asked.budget).tests)
      (of_import ∷ of_tests) new.plugins
  pub saved :
      new.contents ≡ finite.insert old.contents own (Good (fold union of_import of_tests))
  pub same : (new.files ≡ old.files) × (new.left ≡ old.left) × (new.err ≡ old.err)
