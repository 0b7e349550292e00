-- The names that are selected are those of the tests that must run again.
use Rattle.std.proofs.Common.{◌≡◌, ◌⊎◌, inl, inr, ℕ, zero, suc, ◌<◌, Bool, true, false, not, ◌||◌, List, [], ◌∷◌, map, filter, length, All, Contains, encode_utf8_all, string_bytes, refl, ap, sym, subst, ◌∙◌, arith}
use Rattle.std.specs.List.{list_any}
use Rattle.std.specs.Prelude.{bytes_eq}
use Rattle.std.proofs.lemmas.Bool.{false≢true}
use Rattle.std.proofs.lemmas.Slice.Eq.{bytes_eq-Decides}
use Rattle.std.proofs.lemmas.Str.{IsUtf8-string_bytes, encodes-chars, encodes_same}
use Rattle.cov_arcs.specs.Laws.{ArcsAgree, ModulesArcsLaw, CallArcsLaw}
use Rattle.cov_contexts.specs.declared.plugins.Plugin.{Ghosts as PluginOf}
use Rattle.cov_data.specs.DataSet.{Text as Bytes, DataSet, union}
use Rattle.cov_data.specs.Rows.{lines_of}
use Rattle.cov_suite.specs.declared.results.SuiteRun.{SuiteRun}
use Rattle.cov_suite.specs.declared.results.TestResult.{TestResult}
use Rattle.cov_suite.specs.Meant.{IsMeantData}
use Rattle.cov_suite.specs.Results.{end_of, import_of, result_of_tree, suite_of}
use Rattle.cov_suite.specs.Rows.{Line, lines_in, InTurn}
use Rattle.cov_suite.specs.Suites.{RanSuite}
use Rattle.cov_suite.specs.Tests.{tests_of}
use Rattle.cov_suite.specs.Views.{test_view, reached_lines, plain_suite}
use Rattle.cov_verdicts.specs.Chosen.{test_of, MustRun, AreThose, none, this, other, IsChosen}
use Rattle.py_builtins.specs.Outcomes.{finished}
use Rattle.py_builtins.specs.Returns.{Returned, gave, raised, cut}
use Rattle.py_builtins.specs.World.{World}
use Rattle.py_changes.specs.Paths.{path_of, HasReached, UnchangedByPaths}
use Rattle.py_changes.specs.Regular.{MarksSomething, IsRegular}
use Rattle.py_changes.specs.Tests.{imported, tested, request_of}
use Rattle.py_changes.specs.Tests as changes
use Rattle.py_changes.proofs.Positive.{zero-unchanged}
use Rattle.py_meaning.specs.Activations.{Items}
use Rattle.py_meaning.specs.Modules.{LoadedModule, body_of}
use Rattle.py_syntax.specs.Marks.{statement_lines}
use Rattle.py_syntax.specs.Tree.{Text}
use Rattle.cov_select.specs.Chosen.{selected_names, ChosenInSuite}
use Rattle.cov_select.specs.Paths.{plain_change, changes_by_path}
use Rattle.cov_select.specs.Selected.{ByPath, was_cut, is_changed, is_selected}
use Rattle.cov_suite.proofs.DataLines.{empty, line-left, line-right, line-either}
use Rattle.cov_verdicts.proofs.Reached.{in-reached}
use Rattle.cov_select.proofs.DataLines.{line-found}
use Rattle.cov_select.proofs.Paths.{hold-changes, changed-of}
use Rattle.cov_select.proofs.Unmarked.{marks-or-none}
use Rattle.cov_select.proofs.Unselected.{Found, heads, tails, no-change, walk, keeps}
use Rattle.cov_changed.proofs.Words.{first, second}

-- ---- names

-- a name is in a list or isn't
named-or-not : (ns : List Text) (name : Text) → Contains ns name ⊎ (Contains ns name → ⊥)
named-or-not [] name = inr empty
named-or-not (n ∷ ns) name = by_case (bytes_eq n name) refl (named-or-not ns name) where
  by_case : (b : Bool) → bytes_eq n name ≡ b → Contains ns name ⊎ (Contains ns name → ⊥) → Contains (n ∷ ns) name ⊎ (Contains (n ∷ ns) name → ⊥)
  by_case true e rest = inl (0, omega arith, (bytes_eq-Decides n name).0 e)
  by_case false e (inl at) = inl (suc at.0, omega (arith, at.1), at.2)
  by_case false e (inr not_there) = inr no where
    no : Contains (n ∷ ns) name → ⊥
    no (zero, lt, f) = false≢true (sym e ∙ (bytes_eq-Decides n name).1 f)
    no (suc k, lt, f) = not_there (k, omega (arith, lt), f)

-- what passes a test are those of which it tells that something holds
those : {A : Type 0} (Holds : A → Type 0) (test : A → Bool) → ((x : A) → test x ≡ true → Holds x) → ((x : A) → test x ≡ false → Holds x → ⊥) → (xs : List A) → AreThose Holds xs (filter test xs)
those Holds test holds fails [] = none
those Holds test holds fails (x ∷ xs) = by_case (test x) refl (those Holds test holds fails xs) where
  by_case : (b : Bool) → test x ≡ b → AreThose Holds xs (filter test xs) → AreThose Holds (x ∷ xs) (filter test (x ∷ xs))
  by_case true e rest = rw e (this x xs (filter test xs) (holds x e) rest)
  by_case false e rest = rw e (other x xs (filter test xs) (fails x e) rest)

cut-is : (r : Returned) → was_cut (end_of r) ≡ changes.was_cut r
cut-is (gave v) = refl
cut-is (raised kind text) = refl
cut-is cut = refl

-- ---- tests of which something is known

-- a test of this name was cut or reached a line
chosen_by : (b c a : Bool) → (not b || (c || a)) ≡ true → b ≡ true → (c ≡ true) ⊎ (a ≡ true)
chosen_by true true a h e = inl refl
chosen_by true false a h e = inr h
chosen_by false c a h e = absurd (false≢true e)

module _ {P : Type 0} (plugin : PluginOf P) (modules_agree : ModulesArcsLaw) (calls_agree : CallArcsLaw) (old new : List LoadedModule) (arcs : Bool) (fixed : Bytes) (budget : ℕ) (changed : ByPath) (is : map plain_change changed ≡ changes_by_path old new)
    (lines : (m : ℕ) → All (λ l. 0 < l) (statement_lines (body_of old m))) where
  abbrev IsData : List P → Items → DataSet → List P → Type 0
  IsData = IsMeantData plugin old arcs fixed

  -- a changed line is from 1 on
  changed-some : (m l : ℕ) → changes.is_changed old new m l ≡ true → 0 < l
  changed-some m zero at = absurd (false≢true (sym (zero-unchanged old new m (lines m)) ∙ at))
  changed-some m (suc l) at = omega arith

  -- what a test of the old modules reached, where one of the lines of its data is a changed one
  abbrev ReachedChange : Items → Items → Type 0
  ReachedChange imp items =
      (m : ℕ) × (l : ℕ) × (changes.is_changed old new m l ≡ true)
      × (HasReached old imp (path_of old m) l ⊎ HasReached old items (path_of old m) l)

  reached-change : (items imported_items : Items) → ArcsAgree old items → ArcsAgree old imported_items → (d imp : DataSet) (p q s t : List P) → IsData p items d q → IsData s imported_items imp t → list_any (is_changed changed) (lines_in (union d imp)) ≡ true → ReachedChange imported_items items
  reached-change items imported_items agree agree_import d imp p q s t rows at_import h = (m, l, change.2, by_case (line-either d imp (encode_utf8_all (path_of old m)) l (subst (λ (b : Bytes). Contains (lines_of (union d imp) b) l) change.1 line.2))) where
    line : (b : Bytes) × (k : ℕ) × Contains (lines_of (union d imp) b) k × (is_changed changed (b, k) ≡ true)
    line = line-found (is_changed changed) (union d imp) h

    change : (m : ℕ) × (line.0 ≡ encode_utf8_all (path_of old m)) × (changes.is_changed old new m line.1 ≡ true)
    change = changed-of old new changed is (line.0, line.1) line.3

    m : ℕ
    m = change.0

    l : ℕ
    l = line.1

    by_case : Contains (lines_of d (encode_utf8_all (path_of old m))) l ⊎ Contains (lines_of imp (encode_utf8_all (path_of old m))) l → HasReached old imported_items (path_of old m) l ⊎ HasReached old items (path_of old m) l
    by_case (inl at) = inr (in-reached plugin old arcs fixed items d p q rows m l (changed-some m l change.2) agree at)
    by_case (inr at) = inl (in-reached plugin old arcs fixed imported_items imp s t at_import m l (changed-some m l change.2) agree_import at)

  -- a test of the suite that is selected
  abbrev Affected : World → DataSet → Text → Type 0
  Affected w imp n =
      (was_cut (result_of_tree old w budget n).0.end ≡ true)
      ⊎ ((d : DataSet) × (p : List P) × (q : List P) × IsData p (result_of_tree old w budget n).1 d q × (list_any (is_changed changed) (lines_in (union d imp)) ≡ true))

  affected : (w : World) (imp : DataSet) (name : Text) (ts : List TestResult) (ns : List Text) (ds : List DataSet) (p q : List P)
      → map test_view ts ≡ map (λ t. t.0) (map (result_of_tree old w budget) ns) → map reached_lines ts ≡ map (λ d. lines_in (union d imp)) ds
      → InTurn IsData p (map (λ t. t.1) (map (result_of_tree old w budget) ns)) ds q → is_selected ts (is_changed changed) (encode_utf8_all name) ≡ true → Contains ns name → Affected w imp name
  affected w imp name ts [] ds p q e f g h at = absurd (empty at)
  affected w imp name [] (n ∷ ns) ds p q e f g h at = absurd cc
  affected w imp name (t ∷ ts) (n ∷ ns) [] p q e f g h at = absurd cc
  affected w imp name (t ∷ ts) (n ∷ ns) (d ∷ ds) p q e f g h (suc k, lt, at) =
      affected w imp name ts ns ds g.0 q (tails _ _ (map test_view ts) (map (λ t. t.0) (map (result_of_tree old w budget) ns)) e) (tails _ _ (map reached_lines ts) (map (λ d. lines_in (union d imp)) ds) f) g.2
      (second (not (bytes_eq (encode_utf8_all name) (string_bytes t.name)) || (was_cut t.end || list_any (is_changed changed) (reached_lines t))) (is_selected ts (is_changed changed) (encode_utf8_all name)) h) (k, omega (arith, lt), at)
  affected w imp name (t ∷ ts) (n ∷ ns) (d ∷ ds) p q e f g h (zero, lt, at) =
      subst (Affected w imp) at (by_case (chosen_by (bytes_eq (encode_utf8_all name) (string_bytes t.name)) (was_cut t.end) (list_any (is_changed changed) (reached_lines t)) here ((bytes_eq-Decides (encode_utf8_all name) (string_bytes t.name)).1 same))) where
        view : test_view t ≡ (result_of_tree old w budget n).0
        view = heads _ _ (map test_view ts) (map (λ t. t.0) (map (result_of_tree old w budget) ns)) e

        seen : reached_lines t ≡ lines_in (union d imp)
        seen = heads _ _ (map reached_lines ts) (map (λ d. lines_in (union d imp)) ds) f

        here : (not (bytes_eq (encode_utf8_all name) (string_bytes t.name)) || (was_cut t.end || list_any (is_changed changed) (reached_lines t))) ≡ true
        here = first (not (bytes_eq (encode_utf8_all name) (string_bytes t.name)) || (was_cut t.end || list_any (is_changed changed) (reached_lines t))) (is_selected ts (is_changed changed) (encode_utf8_all name)) h

        same : encode_utf8_all name ≡ string_bytes t.name
        same = ap encode_utf8_all (sym at ∙ sym (ap (λ v. v.name) view)) ∙ encodes-chars (string_bytes t.name) (IsUtf8-string_bytes t.name)

        by_case : (was_cut t.end ≡ true) ⊎ (list_any (is_changed changed) (reached_lines t) ≡ true) → Affected w imp n
        by_case (inl c) = inl (sym (ap (λ v. was_cut v.end) view) ∙ c)
        by_case (inr r) = inr (d, p, g.0, g.1, sym (ap (list_any (is_changed changed)) seen) ∙ r)

  -- ---- a suite that ran

  module _ (run : SuiteRun) (before after : List P) (ran : RanSuite IsData before (suite_of old budget) (plain_suite run) after) where
    -- what was selected must run again
    must : (name : Text) → is_selected run.tests.items (is_changed changed) (encode_utf8_all name) ≡ true → MustRun budget old new name
    must name h = by_case (named-or-not (tests_of old) name) where
      of_test : Affected (import_of old budget).world ran.of_import name → MustRun budget old new name
      of_test (inl c) = inr (inl (sym (cut-is (tested old (test_of budget name)).returned) ∙ c))
      of_test (inr r) =
          let t = test_of budget name in
          inr (inr (reached-change (tested old t).items (imported old t).items
          (calls_agree old (imported old t).world [] (request_of t) budget) (modules_agree old t.words [] budget)
          r.0 ran.of_import r.1 r.2 before ran.data_of.0 r.3 ran.data_of.1 r.4))

      by_case : Contains (tests_of old) name ⊎ (Contains (tests_of old) name → ⊥) → MustRun budget old new name
      by_case (inl at) = of_test (affected (import_of old budget).world ran.of_import name run.tests.items (tests_of old) ran.of_tests ran.data_of.0 after ran.tests ran.reached ran.data_of.2 h at)
      by_case (inr not_there) = inl not_there

    -- what wasn't need not
    need-not : (name : Text) → is_selected run.tests.items (is_changed changed) (encode_utf8_all name) ≡ false → MustRun budget old new name → ⊥
    need-not name h = by_case where
      imp : DataSet
      imp = ran.of_import

      at : Found plugin old new arcs fixed budget changed (hold-changes old new changed is) lines (import_of old budget).world imp (encode_utf8_all name) (tests_of old)
      at = walk plugin old new arcs fixed budget changed (hold-changes old new changed is) lines (import_of old budget).world imp (encode_utf8_all name) run.tests.items (tests_of old) ran.of_tests ran.data_of.0 after ran.tests ran.reached ran.data_of.2 h

      same : at.0 ≡ name
      same = encodes_same at.0 name at.9

      by_case : MustRun budget old new name → ⊥
      by_case (inl not_there) = not_there (subst (Contains (tests_of old)) same at.8)
      by_case (inr (inl c)) = false≢true (sym at.5 ∙ cut-is (tested old (test_of budget at.0)).returned ∙ ap (λ n. changes.was_cut (tested old (test_of budget n)).returned) same ∙ c)
      by_case (inr (inr (m, l, change, inl r))) =
          no-change plugin old new arcs fixed budget changed (hold-changes old new changed is) lines (import_of old budget).items imp (union at.1 imp) before ran.data_of.0 ran.data_of.1 (line-right at.1 imp) at.7 m l change r
      by_case (inr (inr (m, l, change, inr r))) =
          no-change plugin old new arcs fixed budget changed (hold-changes old new changed is) lines (result_of_tree old (import_of old budget).world budget at.0).1 at.1 (union at.1 imp) at.2 at.3 at.6 (line-left at.1 imp) at.7 m l change
          (subst (λ (n : Text). HasReached old (tested old (test_of budget n)).items (path_of old m) l) (sym same) r)

    chosen : UnchangedByPaths → IsRegular old → IsChosen budget old new (selected_names run changed (tests_of new)) (length (tests_of new))
    chosen law regular = record {
      imports = ran.imports;
      chosen = those (MustRun budget old new) is_one must need-not (tests_of new);
      counted = refl;
      others = λ name there need. by_case name (is_one name) refl need;
    } where
      is_one : Text → Bool
      is_one name = is_selected run.tests.items (is_changed changed) (encode_utf8_all name)

      by_case : (name : Text) (b : Bool) → is_selected run.tests.items (is_changed changed) (encode_utf8_all name) ≡ b → (MustRun budget old new name → ⊥) → tested new (test_of budget name) ≡ tested old (test_of budget name)
      by_case name true e need = absurd (need (must name e))
      by_case name false e need =
          let at = keeps plugin law old new arcs fixed budget before after run changed (encode_utf8_all name) regular lines ran (hold-changes old new changed is) e in
          subst (λ (n : Text). tested new (test_of budget n) ≡ tested old (test_of budget n)) (encodes_same at.0 name at.2) at.3

-- ---- modules without tests

no-tests : (ts : List TestResult) (which : Line → Bool) (name : Bytes) → map test_view ts ≡ [] → is_selected ts which name ≡ true
no-tests [] which name e = refl
no-tests (t ∷ ts) which name e = absurd cc

module _ (old new : List LoadedModule) (budget : ℕ) (empty_suite : tests_of old ≡ []) where
  new-test : (name : Text) → MustRun budget old new name
  new-test name = inl (λ at. empty (subst (λ (ns : List Text). Contains ns name) empty_suite at))

  pub chosen-all : (run : SuiteRun) (changed : ByPath) → (import_of old budget).outcome ≡ finished → map test_view run.tests.items ≡ [] → IsChosen budget old new (selected_names run changed (tests_of new)) (length (tests_of new))
  chosen-all run changed done e = record {
    imports = done;
    chosen =
        those (MustRun budget old new) (λ name. is_selected run.tests.items (is_changed changed) (encode_utf8_all name)) (λ name h. new-test name)
        (λ name h need. false≢true (sym h ∙ no-tests run.tests.items (is_changed changed) (encode_utf8_all name) e)) (tests_of new);
    counted = refl;
    others = λ name there need. absurd (need (new-test name));
  }

pub chosen-in-suite : {P : Type 0} (plugin : PluginOf P) → UnchangedByPaths → ModulesArcsLaw → CallArcsLaw → ChosenInSuite plugin
chosen-in-suite {P = P} plugin law modules_agree calls_agree old new arcs fixed budget before after run changed regular suite is = by_case (marks-or-none old) suite.ran where
  by_case : MarksSomething (body_of old 0) ⊎ (tests_of old ≡ []) → RanSuite (IsMeantData plugin old arcs fixed) before (suite_of old budget) (plain_suite run) after → IsChosen budget old new (selected_names run changed (tests_of new)) (length (tests_of new))
  by_case (inl marks) ran = let r = regular marks in chosen plugin modules_agree calls_agree old new arcs fixed budget changed is r.1 run before after ran law r.0
  by_case (inr empty_suite) ran =
      chosen-all old new budget empty_suite run changed ran.imports
      (ran.tests ∙ ap (λ (ns : List Text). map (λ t. t.0) (map (result_of_tree old (import_of old budget).world budget) ns)) empty_suite)
