-- What a call of `suite` does, as a relation of its plugins before it, its answer, and its plugins
-- after it.
--     RanSuite            the results and data of a suite
--     NotImportedOf       a script whose import didn't finish
--     IsSuiteOf           a call
--     CodeSuiteOf         a call, by the machine's definition
use Rattle.std.specs.Prelude.{◌≡◌, ◌≢◌, ℕ, List, ◌∷◌, map, Result, IfOk, IsErrOf}
use Rattle.std.specs.List.{fold}
use Rattle.cov_contexts.specs.declared.plugins.Plugin.{Ghosts as PluginOf}
use Rattle.cov_data.specs.DataSet.{DataSet, union}
use Rattle.cov_recorder.specs.Plan.{Plan}
use Rattle.py_builtins.specs.Outcomes.{finished}
use Rattle.py_code.specs.Units.{Module}
use Rattle.cov_measure_laws.specs.Leaving.{AreLeft}
use Rattle.cov_suite.specs.declared.results.SuiteError.{SuiteError}
use Rattle.cov_suite.specs.declared.results.SuiteError.TheVariants.{NotImported}
use Rattle.cov_suite.specs.Results.{Suite, suite_of_code}
use Rattle.cov_suite.specs.Rows.{lines_in, InTurn, HasRows}
use Rattle.cov_suite.specs.Views.{SuiteView}

-- The import finished, and there is one result for each test, in order. Import and tests have data
-- of their own, and the plugins go from each to the next. The saved data are the union of all of
-- them. A test reached the lines of its own data and of those of the import.
pub record RanSuite {P E : Type 0} (is_data : List P → E → DataSet → List P → Type 0)
    (old : List P) (suite : Suite E) (s : SuiteView) (new : List P) : Type 0 where
  pub imports : suite.outcome ≡ finished
  pub tests : s.tests ≡ map (λ t. t.0) suite.tests
  pub of_import : DataSet
  pub of_tests : List DataSet
  pub data_of : InTurn is_data old (suite.at_import ∷ map (λ t. t.1) suite.tests)
      (of_import ∷ of_tests) new
  pub imported : s.imported ≡ lines_in of_import
  pub reached : s.reached ≡ map (λ d. lines_in (union d of_import)) of_tests
  pub rows : s.rows ≡ fold union of_import of_tests

-- The import didn't finish. The plugins are those that it leaves; its data are lost.
pub record NotImportedOf {P E : Type 0} (is_data : List P → E → DataSet → List P → Type 0)
    (old : List P) (suite : Suite E) (new : List P) : Type 0 where
  pub stops : suite.outcome ≢ finished
  pub of_import : DataSet
  pub data_of : is_data old suite.at_import of_import new

-- Either the tests were run, or the import didn't finish, or there was no memory. However it ended,
-- the plugins are those that didn't leave, in the states that their answers gave.
pub record IsSuiteOf {P E : Type 0} (plugin : PluginOf P)
    (is_data : List P → E → DataSet → List P → Type 0) (suite : Suite E) (old : List P)
    (answer : Result SuiteView SuiteError) (new : List P) : Type 0 where
  pub ran : IfOk answer (λ s. RanSuite is_data old suite s new)
  pub not_imported : IsErrOf answer NotImported → NotImportedOf is_data old suite new
  pub plugins : AreLeft plugin old new

-- of these modules of code, under new recorders of this plan
abbrev pub CodeSuiteOf : {P : Type 0} → PluginOf P → Plan → List Module → ℕ → List P
    → Result SuiteView SuiteError → List P → Type 0
CodeSuiteOf plugin plan ms budget old answer new =
    IsSuiteOf plugin (HasRows plugin plan) (suite_of_code ms budget) old answer new
