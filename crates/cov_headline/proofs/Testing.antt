-- What tests promise.
use Rattle.std.proofs.Common.{◌≡◌, inl, inr, ◌∙◌, ℕ, Bool, sym, ap, subst, List, [], ◌∷◌, ◌++◌, map, Option, Some, None, Result, Ok, Err}
use Rattle.std.specs.FinMap as finite
use Rattle.std.specs.Str.{chars}
use Rattle.cov_contexts.specs.declared.plugins.Plugin.{Ghosts as PluginOf}
use Rattle.py_meaning.specs.Modules.{LoadedModule}
use Rattle.py_syntax.specs.Tree.{Text}
use Rattle.cov_data.specs.DataSet.{Text as Bytes, DataSet}
use Rattle.cov_programs.specs.Programs.{bind}
use Rattle.cov_programs.proofs.Results.{ok_is, ok_no_err}
use Rattle.cov_run.specs.Loading.{told_by, IsLoaded}
use Rattle.cov_step.specs.Calls.{Answered, TestsAsked, TestResult, AfterImport, came, not_imported, starved}
use Rattle.cov_step.specs.Phases.{before, opened, settings, own_name}
use Rattle.cov_step.specs.Testing.{tests_name, tests_asked, suite_lines, suite_answered, tests_run, suite_by, suite}
use Rattle.cov_streams.specs.Suites.{result_of, tested_by}
use Rattle.cov_suite.specs.declared.results.SuiteError.{SuiteError}
use Rattle.cov_suite.specs.declared.results.SuiteError.TheVariants as error
use Rattle.cov_suite.specs.Meant.{IsMeantData, SuiteOf}
use Rattle.cov_suite.specs.Results.{import_of, result_of_tree, suite_of}
use Rattle.cov_suite.specs.Rows.{InTurn}
use Rattle.cov_suite.specs.Suites.{RanSuite}
use Rattle.cov_suite.specs.Tests.{tests_of}
use Rattle.cov_suite.specs.Views.{SuiteView}
use Rattle.cov_vault.specs.declared.vault.Content.TheVariants.{Good}
use Rattle.cov_words.specs.Values.{Word}
use Rattle.cov_headline.specs.Promises.{IsSet}
use Rattle.cov_headline.specs.Suites.{import_run, test_run, suite_runs, results_of, AreRecorded, SuitePromise}
use Rattle.cov_headline.specs.Told.{Held}
use Rattle.cov_headline.proofs.Going.{Goes, quietly, quiet-settings, quiet-opened, quiet-before}
use Rattle.cov_headline.proofs.Recorded.{CameLaw, recorded}
use Rattle.cov_headline.proofs.Running.{opened-so}

some-none : {A : Type 0} {a : A} → ◌≡◌ {A = Option A} (Some a) None → ⊥
some-none e = cc

came-is : {A : Type 0} {a b : A} → came a ≡ came b → a ≡ b
came-is h = cc

no-import : {A : Type 0} {a : A} → ◌≡◌ {A = AfterImport A} (came a) not_imported → ⊥
no-import h = cc

no-room : {A : Type 0} {a : A} → ◌≡◌ {A = AfterImport A} (came a) starved → ⊥
no-room h = cc

module _ {P : Type 0} (plugin : PluginOf P) where
  -- ---- what they recorded

  module _ (comes : CameLaw) (ms : List LoadedModule) (arcs : Bool) (context : Bytes) (budget : ℕ) where
    tests-recorded : (names : List Text) (ds : List DataSet) (old new : List P) → InTurn (IsMeantData plugin ms arcs context) old (map (λ t. t.1) (map (result_of_tree ms (import_of ms budget).world budget) names)) ds new → AreRecorded arcs (map (test_run ms budget) names) ds
    tests-recorded [] [] old new h = tt
    tests-recorded [] (d ∷ ds) old new h = absurd h
    tests-recorded (n ∷ ns) [] old new h = absurd h
    tests-recorded (n ∷ ns) (d ∷ ds) old new (mid, is, rest) =
        (is.rows.counted.kind, recorded comes (test_run ms budget n) context d arcs is.rows.counted.kind is.steps, tests-recorded ns ds mid new rest)

    all-recorded : (d : DataSet) (ds : List DataSet) (old new : List P) → InTurn (IsMeantData plugin ms arcs context) old ((suite_of ms budget).at_import ∷ map (λ t. t.1) (suite_of ms budget).tests) (d ∷ ds) new → AreRecorded arcs (suite_runs ms budget) (d ∷ ds)
    all-recorded d ds old new (mid, is, rest) =
        (is.rows.counted.kind, recorded comes (import_run ms budget) context d arcs is.rows.counted.kind is.steps, tests-recorded (tests_of ms) ds mid new rest)

  -- ---- what they came to

  -- tests that ran
  record Ran (ms : List LoadedModule) (asked : TestsAsked) (old : List P) (rs : List TestResult) (d : DataSet) (new : List P) : Type 0 where
    view : SuiteView
    results : rs ≡ map result_of view.tests
    rows : d ≡ view.rows
    ran : RanSuite (IsMeantData plugin ms asked.arcs asked.context) old (suite_of ms asked.budget) view new

  ran-so : (ms : List LoadedModule) (asked : TestsAsked) (old new : List P) (rs : List TestResult) (d : DataSet) (said : Result SuiteView SuiteError) → came (rs, d) ≡ tested_by said
      → SuiteOf plugin ms asked.arcs asked.context asked.budget old said new → Ran ms asked old rs d new
  ran-so ms asked old new rs d (Ok s) e h = record { view = s; results = ap (λ (x : List TestResult × DataSet). x.0) (came-is e); rows = ap (λ (x : List TestResult × DataSet). x.1) (came-is e); ran = h.ran }
  ran-so ms asked old new rs d (Err error.NotImported) e h = absurd (no-import e)
  ran-so ms asked old new rs d (Err error.NoMemory) e h = absurd (no-room e)

  module _ (comes : CameLaw) (asked : TestsAsked) (own file : Word) (old : Held P) (a : Answered) (new : Held P) where
    by-tests : (ms : List LoadedModule) → IsLoaded (told_by old.files (chars file)) (chars file) tests_name ms → Goes plugin (tests_run own asked file ms) old (Ok a) new → SuitePromise plugin asked own file old a new
    by-tests ms loaded (inl s) = absurd s.wanting
    by-tests ms loaded (inr (not_imported, u, m, inl s)) = absurd s.wanting
    by-tests ms loaded (inr (not_imported, u, m, inr (is, same))) = absurd (ok_no_err is)
    by-tests ms loaded (inr (starved, u, m, inl s)) = absurd s.wanting
    by-tests ms loaded (inr (starved, u, m, inr (is, same))) = absurd (ok_no_err is)
    by-tests ms loaded (inr (came (rs, d), u, m, inl s)) = absurd s.wanting
    by-tests ms loaded (inr (came (rs, d), u, m, inr (Some e, v, n, rest))) = absurd (some-none n.0)
    by-tests ms loaded (inr (came (rs, d), u, m, inr (None, v, n, inl s))) = absurd s.wanting
    by-tests ms loaded (inr (came (rs, d), u, m, inr (None, v, n, inr (Some e, w, k, inl s)))) = absurd s.wanting
    by-tests ms loaded (inr (came (rs, d), u, m, inr (None, v, n, inr (Some e, w, k, inr (is, same))))) = absurd (ok_no_err is)
    by-tests ms loaded (inr (came (rs, d), u, m, inr (None, v, n, inr (None, w, k, (is, same))))) =
        let r = ran-so ms asked old.plugins u.plugins rs d m.0.said m.0.is m.0.suite in
        let results : rs ≡ results_of ms asked.budget = r.results ∙ ap (map result_of) r.ran.tests in record {
          modules = ms;
          loaded = loaded;
          imported = r.ran.imports;
          printed = ap (λ (x : Held P). x.out) same ∙ ap (λ (x : Held P). x.out) k.1 ∙ ap (λ (x : Held P). x.out) n.1 ∙ ap (λ (x : Held P). x.out ++ suite_lines rs) m.1 ∙ ap (λ x. old.out ++ suite_lines x) results;
          ended = ok_is is ∙ ap suite_answered results;
          of_import = r.ran.of_import;
          of_tests = r.ran.of_tests;
          recorded = all-recorded comes ms asked.arcs asked.context asked.budget r.ran.of_import r.ran.of_tests old.plugins u.plugins r.ran.data_of;
          labelled = subst (λ ps. InTurn (IsMeantData plugin ms asked.arcs asked.context) old.plugins ((suite_of ms asked.budget).at_import ∷ map (λ t. t.1) (suite_of ms asked.budget).tests) (r.ran.of_import ∷ r.ran.of_tests) ps)
              (sym (ap (λ (x : Held P). x.plugins) same ∙ ap (λ (x : Held P). x.plugins) k.1 ∙ ap (λ (x : Held P). x.plugins) n.1)) r.ran.data_of;
          saved =
              ap (λ (x : Held P). x.contents) same ∙ k.0.1 ∙ ap (λ c. finite.insert c own (Good d)) (ap (λ (x : Held P). x.contents) n.1 ∙ ap (λ (x : Held P). x.contents) m.1)
              ∙ ap (λ x. finite.insert old.contents own (Good x)) (r.rows ∙ r.ran.rows);
          same = (
            ap (λ (x : Held P). x.files) same ∙ ap (λ (x : Held P). x.files) k.1 ∙ ap (λ (x : Held P). x.files) n.1 ∙ ap (λ (x : Held P). x.files) m.1,
            ap (λ (x : Held P). x.left) same ∙ ap (λ (x : Held P). x.left) k.1 ∙ ap (λ (x : Held P). x.left) n.1 ∙ ap (λ (x : Held P). x.left) m.1,
            ap (λ (x : Held P). x.err) same ∙ ap (λ (x : Held P). x.err) k.1 ∙ ap (λ (x : Held P). x.err) n.1 ∙ ap (λ (x : Held P). x.err) m.1,
          );
        }

    by-suite : Goes plugin (suite_by own asked file) old (Ok a) new → SuitePromise plugin asked own file old a new
    by-suite h =
        let x = quietly plugin (opened tests_name file) (λ ms. bind (before own) (λ was. tests_run own asked file ms)) old new a (quiet-opened tests_name file) h in
        let y = quietly plugin (before own) (λ was. tests_run own asked file x.0) old new a (quiet-before own) x.2 in
        by-tests x.0 (opened-so plugin tests_name file old x.0 x.1) y.2

  -- tests that did their work
  pub suite-promise : CameLaw → (branch : Bool) (steps : Option ℕ) (data_file rcfile : Option Word) (file : Word) (old : Held P) (a : Answered) (new : Held P)
      → Goes plugin (suite branch steps data_file rcfile file) old (Ok a) new
      → (s : _) × IsSet plugin rcfile old s × SuitePromise plugin (tests_asked s branch steps) (own_name data_file s) file old a new
  suite-promise comes branch steps data_file rcfile file old a new h =
      let x = quietly plugin (settings rcfile) (λ s. suite_by (own_name data_file s) (tests_asked s branch steps) file) old new a (quiet-settings rcfile) h in
      (x.0, record { ends = x.1 }, by-suite comes (tests_asked x.0 branch steps) (own_name data_file x.0) file old a new x.2)
