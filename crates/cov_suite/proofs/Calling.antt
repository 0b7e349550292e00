-- Tests that are called one after another.
use Rattle.std.proofs.Common.{◌≡◌, ℕ, ◌+◌, ◌<◌, Bool, List, [], ◌∷◌, ◌++◌, length, map, take, get_or, refl, ap, sym, subst, ◌∙◌}
use Rattle.std.specs.List.{fold}
use Rattle.std.proofs.lemmas.List.{map-append}
use Rattle.cov_event.specs.declared.event.Event.{Event}
use Rattle.cov_contexts.specs.declared.plugins.Plugin.{Ghosts as PluginOf}
use Rattle.cov_data.specs.DataSet.{DataSet, no_data, union}
use Rattle.cov_data.proofs.Merging.{all_files-none}
use Rattle.cov_recorder.specs.Plan.{Plan}
use Rattle.py_syntax.specs.Tree.{Text}
use Rattle.cov_suite.specs.declared.results.TestResult.{TestResult}
use Rattle.cov_suite.specs.Recorded.{WasRecorded, AllTests}
use Rattle.cov_suite.specs.Results.{TestView}
use Rattle.cov_suite.specs.Rows.{Line, lines_in, InTurn}
use Rattle.cov_suite.specs.Views.{test_view, reached_lines}
use Rattle.cov_suite.proofs.Turns.{turn-more}
use Rattle.cov_suite.proofs.Walks.{take_here}

-- data that are joined with none
pub from-nothing : (arcs : Bool) (d : DataSet) → d.arcs ≡ arcs → union (no_data arcs) d ≡ d
from-nothing arcs d e = λ i. record { arcs = sym e i; files = all_files-none d.files i }

fold-more : {A B : Type 0} (f : A → B → A) (a : A) (xs : List B) (x : B) → fold f a (xs ++ x ∷ []) ≡ f (fold f a xs) x
fold-more f a [] x = refl
fold-more f a (y ∷ ys) x = fold-more f (f a y) ys x

module _ {P : Type 0} (plugin : PluginOf P) (plan : Plan) (of_import : DataSet) (old : List P) (first : DataSet) where
  pub no-tests : (all : DataSet) → all ≡ first → AllTests plugin plan of_import old [] [] [] first all old
  no-tests all e = record { results = refl; of_tests = []; data_of = refl; lines = refl; rows = e }

  one-more : (mid new : List P) (done : List (TestView × List Event)) (tests : List TestView) (reached : List (List Line)) (all : DataSet) (t : TestView × List Event) (view : TestView) (lines : List Line) (d more : DataSet)
      → AllTests plugin plan of_import old done tests reached first all mid → WasRecorded plugin plan mid t.1 d new → view ≡ t.0 → lines ≡ lines_in (union d of_import) → more ≡ union all d
      → AllTests plugin plan of_import old (done ++ t ∷ []) (tests ++ view ∷ []) (reached ++ lines ∷ []) first more new
  one-more mid new done tests reached all t view lines d more h k seen met joined = record {
    results = ap (λ vs. vs ++ view ∷ []) h.results ∙ ap (λ v. map (λ t. t.0) done ++ v ∷ []) seen ∙ sym (map-append (λ t. t.0) done (t ∷ []));
    of_tests = h.of_tests ++ d ∷ [];
    data_of = subst (λ es. InTurn (WasRecorded plugin plan) old es (h.of_tests ++ d ∷ []) new) (sym (map-append (λ t. t.1) done (t ∷ [])))
        (turn-more (WasRecorded plugin plan) old mid new (map (λ t. t.1) done) h.of_tests t.1 d h.data_of k);
    lines = ap (λ ls. ls ++ lines ∷ []) h.lines ∙ ap (λ l. map (λ d. lines_in (union d of_import)) h.of_tests ++ l ∷ []) met ∙ sym (map-append (λ d. lines_in (union d of_import)) h.of_tests (d ∷ []));
    rows = joined ∙ ap (λ x. union x d) h.rows ∙ sym (fold-more union first h.of_tests d);
  }

  -- the next of some names
  pub next-test : (f : Text → TestView × List Event) (names : List Text) (i : ℕ) (name : Text) → i < length names → name ≡ get_or names i name
      → (mid new : List P) (results longer : List TestResult) (r : TestResult) → longer ≡ results ++ r ∷ [] → (all d more : DataSet)
      → AllTests plugin plan of_import old (map f (take i names)) (map test_view results) (map reached_lines results) first all mid
      → WasRecorded plugin plan mid (f name).1 d new → test_view r ≡ (f name).0 → reached_lines r ≡ lines_in (union d of_import) → more ≡ union all d
      → AllTests plugin plan of_import old (map f (take (i + 1) names)) (map test_view longer) (map reached_lines longer) first more new
  next-test f names i name low at mid new results longer r is all d more h k seen met joined =
      let names_on : map f (take (i + 1) names) ≡ map f (take i names) ++ f name ∷ [] = ap (map f) (take_here names i name low at) ∙ map-append f (take i names) (name ∷ []) in
      let views_on : map test_view longer ≡ map test_view results ++ test_view r ∷ [] = ap (map test_view) is ∙ map-append test_view results (r ∷ []) in
      let lines_on : map reached_lines longer ≡ map reached_lines results ++ reached_lines r ∷ [] = ap (map reached_lines) is ∙ map-append reached_lines results (r ∷ []) in
      let next = one-more mid new (map f (take i names)) (map test_view results) (map reached_lines results) all (f name) (test_view r) (reached_lines r) d more h k seen met joined in
      subst (λ ts. AllTests plugin plan of_import old ts (map test_view longer) (map reached_lines longer) first more new) (sym names_on)
      (subst (λ vs. AllTests plugin plan of_import old (map f (take i names) ++ f name ∷ []) vs (map reached_lines longer) first more new) (sym views_on)
      (subst (λ ls. AllTests plugin plan of_import old (map f (take i names) ++ f name ∷ []) (map test_view results ++ test_view r ∷ []) ls first more new) (sym lines_on) next))
