-- Data of one thing after another.
use Rattle.std.proofs.Common.{◌≡◌, List, [], ◌∷◌, ◌++◌, map, Result, Ok, Err, IfOk, refl, ap, subst, ◌∙◌}
use Rattle.std.specs.List.{AllByRecursion}
use Rattle.cov_contexts.specs.declared.plugins.Plugin.{Ghosts as PluginOf}
use Rattle.cov_data.specs.DataSet.{DataSet}
use Rattle.cov_suite.specs.declared.results.SuiteError.{SuiteError}
use Rattle.cov_suite.specs.Results.{TestView, Suite}
use Rattle.cov_suite.specs.Rows.{InTurn}
use Rattle.cov_suite.specs.Suites.{RanSuite, IsSuiteOf}
use Rattle.cov_suite.specs.Views.{SuiteView}

-- one more
pub turn-more : {P E : Type 0} (is : List P → E → DataSet → List P → Type 0) (old mid new : List P) (es : List E) (ds : List DataSet) (e : E) (d : DataSet)
    → InTurn is old es ds mid → is mid e d new → InTurn is old (es ++ e ∷ []) (ds ++ d ∷ []) new
turn-more is old mid new [] [] e d h k = (new, subst (λ p. is p e d new) h k, refl)
turn-more is old mid new [] (x ∷ ds) e d h k = absurd h
turn-more is old mid new (x ∷ es) [] e d h k = absurd h
turn-more is old mid new (x ∷ es) (y ∷ ds) e d h k = (h.0, h.1, turn-more is h.0 mid new es ds e d h.2 k)

module _ {E F : Type 0} (told : F → E) where
  -- what happened, seen as this tells it
  abbrev pub told_test : TestView × F → TestView × E
  told_test t = (t.0, told t.1)

  abbrev pub told_suite : Suite F → Suite E
  told_suite s = record { outcome = s.outcome; at_import = told s.at_import; tests = map told_test s.tests }

module _ {E : Type 0} where
  same-tests : (ts : List (TestView × E)) → map (told_test (λ e. e)) ts ≡ ts
  same-tests [] = refl
  same-tests (t ∷ ts) = ap (λ rest. t ∷ rest) (same-tests ts)

  pub told-itself : (s : Suite E) → told_suite (λ e. e) s ≡ s
  told-itself s = λ i. record { outcome = s.outcome; at_import = s.at_import; tests = same-tests s.tests i }

module _ {P E F : Type 0} (plugin : PluginOf P) (one : List P → E → DataSet → List P → Type 0) (other : List P → F → DataSet → List P → Type 0) (told : F → E) where
  -- what is data of the one is data of the other
  abbrev pub IsAlso : F → Type 0
  IsAlso f = (old : List P) (d : DataSet) (new : List P) → one old (told f) d new → other old f d new

  turns : (ts : List (TestView × F)) → AllByRecursion (λ t. IsAlso t.1) ts → (old : List P) (ds : List DataSet) (new : List P) → InTurn one old (map (λ t. t.1) (map (told_test told) ts)) ds new → InTurn other old (map (λ t. t.1) ts) ds new
  turns [] each old [] new h = h
  turns [] each old (d ∷ ds) new h = absurd h
  turns (t ∷ ts) each old [] new h = absurd h
  turns (t ∷ ts) each old (d ∷ ds) new h = (h.0, each.0 old d h.0 h.1, turns ts each.1 h.0 ds new h.2)

  same-views : (ts : List (TestView × F)) → map (λ t. t.0) (map (told_test told) ts) ≡ map (λ t. t.0) ts
  same-views [] = refl
  same-views (t ∷ ts) = ap (λ vs. t.0 ∷ vs) (same-views ts)

  module _ (s : Suite F) (at_import : IsAlso s.at_import) (each : AllByRecursion (λ t. IsAlso t.1) s.tests) (old : List P) where
    ran-as : (v : SuiteView) (new : List P) → RanSuite one old (told_suite told s) v new → RanSuite other old s v new
    ran-as v new h = record {
      imports = h.imports;
      tests = h.tests ∙ same-views s.tests;
      of_import = h.of_import;
      of_tests = h.of_tests;
      data_of = (h.data_of.0, at_import old h.of_import h.data_of.0 h.data_of.1, turns s.tests each h.data_of.0 h.of_tests new h.data_of.2);
      imported = h.imported;
      reached = h.reached;
      rows = h.rows;
    }

    if-ran : (answer : Result SuiteView SuiteError) (new : List P) → IfOk answer (λ v. RanSuite one old (told_suite told s) v new) → IfOk answer (λ v. RanSuite other old s v new)
    if-ran (Ok v) new h = ran-as v new h
    if-ran (Err e) new h = tt

    pub suite-as : (answer : Result SuiteView SuiteError) (new : List P) → IsSuiteOf plugin one (told_suite told s) old answer new → IsSuiteOf plugin other s old answer new
    suite-as answer new h = record {
      ran = if-ran answer new h.ran;
      not_imported = λ e.
          let k = h.not_imported e in
          record { stops = k.stops; of_import = k.of_import; data_of = at_import old k.of_import new k.data_of };
      plugins = h.plugins;
    }
