-- A test that isn't selected keeps its result.
use Rattle.std.proofs.Common.{◌≡◌, ℕ, zero, suc, ◌<◌, Bool, true, false, not, ◌&&◌, ◌||◌, List, [], ◌∷◌, map, All, Contains, encode_utf8_all, string_bytes, refl, ap, sym, subst, ◌∙◌, arith}
use Rattle.std.specs.List.{list_any}
use Rattle.std.specs.Prelude.{bytes_eq}
use Rattle.std.specs.Str.{chars}
use Rattle.std.proofs.lemmas.Bool.{false≢true}
use Rattle.std.proofs.lemmas.Slice.Eq.{bytes_eq-Decides}
use Rattle.std.proofs.lemmas.Str.{IsUtf8-string_bytes, encodes-chars}
use Rattle.cov_contexts.specs.declared.plugins.Plugin.{Ghosts as PluginOf}
use Rattle.cov_data.specs.DataSet.{Text as Bytes, DataSet, union}
use Rattle.cov_data.specs.Rows.{lines_of}
use Rattle.cov_suite.specs.declared.results.SuiteRun.{SuiteRun}
use Rattle.cov_suite.specs.declared.results.TestResult.{TestResult}
use Rattle.cov_suite.specs.Meant.{IsMeantData}
use Rattle.cov_suite.specs.Results.{end_of, import_of, result_of_tree, suite_of}
use Rattle.cov_suite.specs.Rows.{lines_in, InTurn}
use Rattle.cov_suite.specs.Suites.{RanSuite}
use Rattle.cov_suite.specs.Tests.{tests_of}
use Rattle.cov_suite.specs.Views.{test_view, reached_lines, plain_suite}
use Rattle.cov_verdicts.specs.Chosen.{test_of}
use Rattle.py_builtins.specs.Outcomes as outcomes
use Rattle.py_builtins.specs.World.{World}
use Rattle.py_changes.specs.Paths.{path_of, ReachedNoChange, UnchangedByPaths}
use Rattle.py_changes.specs.Regular.{IsRegular}
use Rattle.py_changes.specs.Tests.{tested}
use Rattle.py_changes.proofs.Positive.{zero-unchanged}
use Rattle.py_meaning.specs.Activations.{Items}
use Rattle.py_meaning.specs.Modules.{LoadedModule, body_of}
use Rattle.py_syntax.specs.Marks.{statement_lines}
use Rattle.py_syntax.specs.Tree.{Text}
use Rattle.cov_select.specs.Selected.{ByPath, was_cut, is_changed, is_selected}
use Rattle.cov_select.specs.Unselected.{HoldChanges, UnselectedInSuite}
use Rattle.cov_suite.proofs.DataLines.{line-left, line-right}
use Rattle.cov_verdicts.proofs.Reached.{reached-in}
use Rattle.cov_select.proofs.DataLines.{any-line}

-- ---- parts

tail_of : {X : Type 0} → List X → List X
tail_of [] = []
tail_of (x ∷ xs) = xs

head_or : {X : Type 0} → X → List X → X
head_or d [] = d
head_or d (x ∷ xs) = x

pub heads : {X : Type 0} (x y : X) (xs ys : List X) → (x ∷ xs) ≡ (y ∷ ys) → x ≡ y
unfolding head_or
heads x y xs ys e = ap (head_or x) e

pub tails : {X : Type 0} (x y : X) (xs ys : List X) → (x ∷ xs) ≡ (y ∷ ys) → xs ≡ ys
unfolding tail_of
tails x y xs ys e = ap tail_of e

-- what a test that isn't selected did not
facts : (b c a : Bool) → (not b || (c || a)) ≡ false → (b ≡ true) × (c ≡ false) × (a ≡ false)
facts true false false h = (refl, refl, refl)
facts true false true h = absurd (false≢true (sym h))
facts true true a h = absurd (false≢true (sym h))
facts false c a h = absurd (false≢true (sym h))

module _ {P : Type 0} (plugin : PluginOf P) (old new : List LoadedModule) (arcs : Bool) (fixed : Bytes) (budget : ℕ) (changed : ByPath) (holds : HoldChanges old new changed)
    (lines : (m : ℕ) → All (λ l. 0 < l) (statement_lines (body_of old m))) where
  -- the data of items
  abbrev pub IsData : List P → Items → DataSet → List P → Type 0
  IsData = IsMeantData plugin old arcs fixed

  -- where no line of larger data is a changed one, the items reached none
  pub no-change : (items : Items) (d all : DataSet) (p q : List P) → IsData p items d q → ((path : Bytes) (l : ℕ) → Contains (lines_of d path) l → Contains (lines_of all path) l)
      → list_any (is_changed changed) (lines_in all) ≡ false → ReachedNoChange old new items
  no-change items d all p q is larger none m zero at reached = absurd (false≢true (sym (zero-unchanged old new m (lines m)) ∙ at))
  no-change items d all p q is larger none m (suc l) at reached =
      false≢true (sym none ∙ any-line (is_changed changed) all (encode_utf8_all (path_of old m)) (suc l) (larger (encode_utf8_all (path_of old m)) (suc l) (reached-in plugin old arcs fixed items d p q is m (suc l) (omega arith) reached)) (holds m (suc l) at))

  -- ---- a test that isn't selected

  abbrev pub Found : World → DataSet → Bytes → List Text → Type 0
  Found w imp name ns =
      (n : Text) × (d : DataSet) × (p : List P) × (q : List P) × (n ≡ chars name)
      × (was_cut (result_of_tree old w budget n).0.end ≡ false) × IsData p (result_of_tree old w budget n).1 d q
      × (list_any (is_changed changed) (lines_in (union d imp)) ≡ false) × Contains ns n × (encode_utf8_all n ≡ name)

  pub walk : (w : World) (imp : DataSet) (name : Bytes) (ts : List TestResult) (ns : List Text) (ds : List DataSet) (p q : List P)
      → map test_view ts ≡ map (λ t. t.0) (map (result_of_tree old w budget) ns) → map reached_lines ts ≡ map (λ d. lines_in (union d imp)) ds
      → InTurn IsData p (map (λ t. t.1) (map (result_of_tree old w budget) ns)) ds q → is_selected ts (is_changed changed) name ≡ false → Found w imp name ns
  walk w imp name [] ns ds p q e f g h = absurd (false≢true (sym h))
  walk w imp name (t ∷ ts) [] ds p q e f g h = absurd cc
  walk w imp name (t ∷ ts) (n ∷ ns) [] p q e f g h = absurd cc
  walk w imp name (t ∷ ts) (n ∷ ns) (d ∷ ds) p q e f g h = by_case (not (bytes_eq name (string_bytes t.name)) || (was_cut t.end || list_any (is_changed changed) (reached_lines t))) refl
      (λ k. walk w imp name ts ns ds g.0 q (tails _ _ (map test_view ts) (map (λ t. t.0) (map (result_of_tree old w budget) ns)) e) (tails _ _ (map reached_lines ts) (map (λ d. lines_in (union d imp)) ds) f) g.2 k) where
        view : test_view t ≡ (result_of_tree old w budget n).0
        view = heads _ _ (map test_view ts) (map (λ t. t.0) (map (result_of_tree old w budget) ns)) e

        seen : reached_lines t ≡ lines_in (union d imp)
        seen = heads _ _ (map reached_lines ts) (map (λ d. lines_in (union d imp)) ds) f

        by_case : (b : Bool) → (not (bytes_eq name (string_bytes t.name)) || (was_cut t.end || list_any (is_changed changed) (reached_lines t))) ≡ b → (is_selected ts (is_changed changed) name ≡ false → Found w imp name ns) → Found w imp name (n ∷ ns)
        by_case true k rest =
            let more = rest (sym (ap (λ b. b && is_selected ts (is_changed changed) name) k) ∙ h) in
            (more.0, more.1, more.2, more.3, more.4, more.5, more.6, more.7, (suc more.8.0, omega (arith, more.8.1), more.8.2), more.9)
        by_case false k rest =
            let did = facts (bytes_eq name (string_bytes t.name)) (was_cut t.end) (list_any (is_changed changed) (reached_lines t)) k in (
              n,
              d,
              p,
              g.0,
              sym (ap chars ((bytes_eq-Decides name (string_bytes t.name)).0 did.0) ∙ ap (λ v. v.name) view),
              sym (ap (λ v. was_cut v.end) view) ∙ did.1,
              g.1,
              sym (ap (λ ls. list_any (is_changed changed) ls) seen) ∙ did.2,
              (0, omega arith, refl),
              ap encode_utf8_all (sym (ap (λ v. v.name) view)) ∙ encodes-chars (string_bytes t.name) (IsUtf8-string_bytes t.name) ∙ sym ((bytes_eq-Decides name (string_bytes t.name)).0 did.0),
            )

-- a test that isn't selected, by its name in the old modules, with its result in both versions
abbrev pub Keeps : List LoadedModule → List LoadedModule → ℕ → Bytes → Type 0
Keeps old new budget name =
    (n : Text) × (n ≡ chars name) × (encode_utf8_all n ≡ name)
    × (tested new (test_of budget n) ≡ tested old (test_of budget n))

pub keeps : {P : Type 0} (plugin : PluginOf P) → UnchangedByPaths → (old new : List LoadedModule) (arcs : Bool) (fixed : Bytes) (budget : ℕ) (before after : List P) (run : SuiteRun) (changed : ByPath) (name : Bytes)
    → IsRegular old → ((m : ℕ) → All (λ l. 0 < l) (statement_lines (body_of old m)))
    → RanSuite (IsMeantData plugin old arcs fixed) before (suite_of old budget) (plain_suite run) after → HoldChanges old new changed
    → is_selected run.tests.items (is_changed changed) name ≡ false → Keeps old new budget name
keeps plugin law old new arcs fixed budget before after run changed name regular lines r holds none =
    let imp = r.of_import in
    let w = (import_of old budget).world in
    let at = walk plugin old new arcs fixed budget changed holds lines w imp name run.tests.items (tests_of old) r.of_tests r.data_of.0 after r.tests r.reached r.data_of.2 none in (
      at.0,
      at.4,
      at.9,
      law old new (test_of budget at.0) regular lines
          (λ e. let k : outcomes.finished ≡ outcomes.cut = sym r.imports ∙ e in absurd cc)
          (no-change plugin old new arcs fixed budget changed holds lines (import_of old budget).items imp (union at.1 imp) before r.data_of.0 r.data_of.1 (line-right at.1 imp) at.7)
          (λ e. false≢true (sym at.5 ∙ ap (λ x. was_cut (end_of x)) e))
          (no-change plugin old new arcs fixed budget changed holds lines (result_of_tree old w budget at.0).1 at.1 (union at.1 imp) at.2 at.3 at.6 (line-left at.1 imp) at.7),
    )

pub unselected : {P : Type 0} (plugin : PluginOf P) → UnchangedByPaths → UnselectedInSuite plugin
unselected plugin law old new arcs fixed budget before after run changed name regular lines suite holds none =
    let at = keeps plugin law old new arcs fixed budget before after run changed name regular lines suite.ran holds none in
    subst (λ (n : Text). tested new (test_of budget n) ≡ tested old (test_of budget n)) at.1 at.3
