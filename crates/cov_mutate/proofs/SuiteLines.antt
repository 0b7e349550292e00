-- The lines of the data of a suite are those that the import or a test reached.
use Rattle.std.proofs.Common.{◌↔◌, ◌⊎◌, inl, inr, ℕ, zero, suc, ◌<◌, Bool, List, [], ◌∷◌, map, Contains, encode_utf8_all, refl, sym, subst, arith}
use Rattle.std.specs.List.{fold}
use Rattle.cov_arcs.specs.Laws.{ArcsAgree, ModulesArcsLaw, CallArcsLaw}
use Rattle.cov_contexts.specs.declared.plugins.Plugin.{Ghosts as PluginOf}
use Rattle.cov_data.specs.DataSet.{Text as Bytes, DataSet, union}
use Rattle.cov_data.specs.Rows.{lines_of}
use Rattle.cov_suite.specs.Meant.{IsMeantData}
use Rattle.cov_suite.specs.Results.{words, import_of, result_of_tree, suite_of}
use Rattle.cov_suite.specs.Rows.{InTurn}
use Rattle.cov_suite.specs.Suites.{RanSuite}
use Rattle.cov_suite.specs.Tests.{tests_of}
use Rattle.cov_suite.specs.Views.{SuiteView}
use Rattle.cov_suite.proofs.DataLines.{empty, line-left, line-right, line-either}
use Rattle.cov_verdicts.specs.Chosen.{test_of}
use Rattle.cov_verdicts.specs.Verdicts.{IsReached}
use Rattle.cov_verdicts.proofs.Reached.{reached-in, in-reached}
use Rattle.py_changes.specs.Paths.{path_of, HasReached}
use Rattle.py_changes.specs.Tests.{request_of, tested}
use Rattle.py_meaning.specs.Activations.{Items}
use Rattle.py_meaning.specs.Modules.{LoadedModule}
use Rattle.py_syntax.specs.Tree.{Text}

module _ {P : Type 0} (plugin : PluginOf P) (modules_agree : ModulesArcsLaw) (calls_agree : CallArcsLaw) (ms : List LoadedModule) (arcs : Bool) (fixed : Bytes) (budget : ℕ) (m l : ℕ) (some : 0 < l) where
  abbrev IsData : List P → Items → DataSet → List P → Type 0
  IsData = IsMeantData plugin ms arcs fixed

  abbrev path : Bytes
  path = encode_utf8_all (path_of ms m)

  -- what happened in a test
  abbrev items_of : Text → Items
  items_of name = (tested ms (test_of budget name)).items

  -- one of these tests reached the line
  abbrev SomeReached : List Text → Type 0
  SomeReached names = (name : Text) × Contains names name × HasReached ms (items_of name) (path_of ms m) l

  own-lines : (items : Items) → ArcsAgree ms items → (d : DataSet) (p q : List P) → IsData p items d q → Contains (lines_of d path) l ↔ HasReached ms items (path_of ms m) l
  own-lines items agree d p q is = (in-reached plugin ms arcs fixed items d p q is m l some agree, reached-in plugin ms arcs fixed items d p q is m l some)

  -- one test more, whose data are added to others
  module _ (name : Text) (names : List Text) (first d all : DataSet) (own : Contains (lines_of d path) l ↔ HasReached ms (items_of name) (path_of ms m) l)
      (rest : Contains (lines_of all path) l ↔ (Contains (lines_of (union first d) path) l ⊎ SomeReached names)) where
    both : Contains (lines_of first path) l ⊎ Contains (lines_of d path) l → Contains (lines_of first path) l ⊎ SomeReached (name ∷ names)
    both (inl at) = inl at
    both (inr at) = inr (name, (0, omega arith, refl), own.0 at)

    to : Contains (lines_of (union first d) path) l ⊎ SomeReached names → Contains (lines_of first path) l ⊎ SomeReached (name ∷ names)
    to (inl at) = both (line-either first d path l at)
    to (inr t) = inr (t.0, (suc t.1.0, omega (arith, t.1.1), t.1.2), t.2)

    from : Contains (lines_of first path) l ⊎ SomeReached (name ∷ names) → Contains (lines_of all path) l
    from (inl at) = rest.1 (inl (line-left first d path l at))
    from (inr (n, (zero, lt, e), t)) = rest.1 (inl (line-right first d path l (own.1 (subst (λ (x : Text). HasReached ms (items_of x) (path_of ms m) l) (sym e) t))))
    from (inr (n, (suc k, lt, e), t)) = rest.1 (inr (n, (k, omega (arith, lt), e), t))

    test-more : Contains (lines_of all path) l ↔ (Contains (lines_of first path) l ⊎ SomeReached (name ∷ names))
    test-more = (λ at. to (rest.0 at), from)

  none-more : (first : DataSet) → Contains (lines_of first path) l ⊎ SomeReached [] → Contains (lines_of first path) l
  none-more first (inl at) = at
  none-more first (inr t) = absurd (empty t.1)

  walk : (names : List Text) (ds : List DataSet) (p q : List P) (first : DataSet) → InTurn IsData p (map (λ t. t.1) (map (result_of_tree ms (import_of ms budget).world budget) names)) ds q
      → Contains (lines_of (fold union first ds) path) l ↔ (Contains (lines_of first path) l ⊎ SomeReached names)
  walk [] [] p q first h = (λ at. inl at, none-more first)
  walk [] (d ∷ ds) p q first h = absurd h
  walk (name ∷ names) [] p q first h = absurd h
  walk (name ∷ names) (d ∷ ds) p q first h =
      test-more name names first d (fold union (union first d) ds)
      (own-lines (items_of name) (calls_agree ms (import_of ms budget).world [] (request_of (test_of budget name)) budget) d p h.0 h.1)
      (walk names ds h.0 q (union first d) h.2)

  pub suite-lines : (old : List P) (s : SuiteView) (new : List P) → RanSuite IsData old (suite_of ms budget) s new → Contains (lines_of s.rows path) l ↔ IsReached budget ms m l
  suite-lines old s new h = (
    λ at. first (in-all.0 (subst (λ (d : DataSet). Contains (lines_of d path) l) h.rows at)),
    λ t. subst (λ (d : DataSet). Contains (lines_of d path) l) (sym h.rows) (in-all.1 (second t)),
  )
    where
      in-all : Contains (lines_of (fold union h.of_import h.of_tests) path) l ↔ (Contains (lines_of h.of_import path) l ⊎ SomeReached (tests_of ms))
      in-all = walk (tests_of ms) h.of_tests h.data_of.0 new h.of_import h.data_of.2

      own : Contains (lines_of h.of_import path) l ↔ HasReached ms (import_of ms budget).items (path_of ms m) l
      own = own-lines (import_of ms budget).items (modules_agree ms words [] budget) h.of_import old h.data_of.0 h.data_of.1

      first : Contains (lines_of h.of_import path) l ⊎ SomeReached (tests_of ms) → IsReached budget ms m l
      first (inl at) = inl (own.0 at)
      first (inr t) = inr t

      second : IsReached budget ms m l → Contains (lines_of h.of_import path) l ⊎ SomeReached (tests_of ms)
      second (inl t) = inl (own.1 t)
      second (inr t) = inr t
