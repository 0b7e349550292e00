-- How a suite ends.
use Rattle.std.proofs.Common.{◌≡◌, ℕ, Bool, true, false, List, map, Result, Ok, Err, refl, ap, sym, subst, ◌∙◌}
use Rattle.std.specs.Prelude.{◌≢◌, IsErrOf}
use Rattle.cov_contexts.specs.declared.plugins.Plugin.{Ghosts as PluginOf}
use Rattle.cov_data.specs.DataSet.{DataSet}
use Rattle.cov_measure_laws.specs.Leaving.{AreLeft}
use Rattle.cov_recorder.specs.Plan.{Plan}
use Rattle.py_builtins.specs.Outcomes.{Outcome, finished, exited, raised, cut}
use Rattle.py_builtins.specs.World.{World}
use Rattle.py_code.specs.Units.{Module}
use Rattle.py_syntax.specs.Tree.{Text}
use Rattle.cov_suite.specs.declared.results.SuiteError.{SuiteError}
use Rattle.cov_suite.specs.declared.results.SuiteError.TheVariants.{NotImported, NoMemory}
use Rattle.cov_suite.specs.declared.results.SuiteRun.{SuiteRun}
use Rattle.cov_suite.specs.Recorded.{WasRecorded, is_finished, Imports, AllTests}
use Rattle.cov_suite.specs.Results.{Suite, import_of_code, result_of_code, suite_of_code}
use Rattle.cov_suite.specs.Rows.{lines_in}
use Rattle.cov_suite.specs.Suites.{IsSuiteOf}
use Rattle.cov_suite.specs.Tests.{tests_of_code}
use Rattle.cov_suite.specs.Views.{SuiteView, line_of, test_view, reached_lines, plain_suite}

pub no-memory : {P E : Type 0} (plugin : PluginOf P) (is_data : List P → E → DataSet → List P → Type 0) (suite : Suite E) (old new : List P) (answer : Result SuiteView SuiteError) → answer ≡ Err NoMemory → AreLeft plugin old new → IsSuiteOf plugin is_data suite old answer new
no-memory plugin is_data suite old new answer is left =
    subst (λ x. IsSuiteOf plugin is_data suite old x new) (sym is) (record { ran = tt; not_imported = λ e. absurd (apart e); plugins = left })
  where
    apart : IsErrOf {T = SuiteView} (Err NoMemory) NotImported → ⊥
    apart e = cc

finished-is : (o : Outcome) → true ≡ is_finished o → o ≡ finished
finished-is finished e = refl
finished-is (exited status text) e = cc
finished-is (raised kind text) e = cc
finished-is cut e = cc

unfinished : (o : Outcome) → false ≡ is_finished o → o ≢ finished
unfinished o e is = apart (e ∙ ap is_finished is)
  where
    apart : false ≡ true → ⊥
    apart e = cc

module _ {P : Type 0} (plugin : PluginOf P) (plan : Plan) (ms : List Module) (budget : ℕ) (old : List P) (done : Bool) (left : World) (d : DataSet) (mid : List P) (h : Imports plugin plan ms budget old done left d mid) where
  pub not-imported : done ≡ false → AreLeft plugin old mid → IsSuiteOf plugin (WasRecorded plugin plan) (suite_of_code ms budget) old (Err NotImported) mid
  not-imported e left = record {
    ran = tt;
    not_imported = λ _. record { stops = unfinished (import_of_code ms budget).outcome (sym e ∙ h.outcome); of_import = d; data_of = h.recorded };
    plugins = left;
  }

  pub has-run : done ≡ true → (new : List P) → AreLeft plugin old new → (names : List Text) → names ≡ tests_of_code ms → (s : SuiteRun)
      → AllTests plugin plan d mid (map (result_of_code ms left budget) names) (map test_view s.tests.items) (map reached_lines s.tests.items) d s.rows new → map line_of s.imported.items ≡ lines_in d
      → IsSuiteOf plugin (WasRecorded plugin plan) (suite_of_code ms budget) old (Ok (plain_suite s)) new
  has-run e new leaves names all s k lines =
      let suite = suite_of_code ms budget in
      let same : map (result_of_code ms left budget) names ≡ suite.tests =
      ap (λ w. map (result_of_code ms w budget) names) (sym h.world) ∙ ap (map (result_of_code ms (import_of_code ms budget).world budget)) all in
      let k = subst (λ ts. AllTests plugin plan d mid ts (map test_view s.tests.items) (map reached_lines s.tests.items) d s.rows new) same k in
      record {
        ran = record {
          imports = finished-is (import_of_code ms budget).outcome (sym e ∙ h.outcome);
          tests = k.results;
          of_import = d;
          of_tests = k.of_tests;
          data_of = (mid, h.recorded, k.data_of);
          imported = lines;
          reached = k.lines;
          rows = k.rows;
        };
        not_imported = λ e. absurd (apart e);
        plugins = leaves;
      }
    where
      apart : {s : SuiteView} → IsErrOf {T = SuiteView} {E = SuiteError} (Ok s) NotImported → ⊥
      apart e = cc
