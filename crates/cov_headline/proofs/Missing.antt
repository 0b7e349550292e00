-- The missing lines and branches of an analysis, by the runs that its data come from.
use Rattle.std.proofs.Common.{◌≡◌, ◌↔◌, inl, inr, ℕ, ◌<◌, ℤ, pos, negsuc, Bool, true, false, not, cond, if◌then◌else◌, List, [], ◌∷◌, map, Contains, refl, ap, sym, subst, ◌∙◌}
use Rattle.std.specs.Prelude.{filter, ◌&&◌, ◌||◌}
use Rattle.std.specs.Ordering.{int_eq}
use Rattle.std.specs.List.{list_any}
use Rattle.std.specs.FinMap.{entries}
use Rattle.std.proofs.lemmas.Bool.Decides.{Decides-int_eq}
use Rattle.py_syntax.specs.Marks.{statement_lines}
use Rattle.py_syntax.specs.Prediction.{Arc, predicted}
use Rattle.py_syntax.specs.Tree.{Stmts}
use Rattle.cov_analysis.specs.Analyses.{source_of, taken_of, analysis_of}
use Rattle.cov_analysis.specs.Branches.{Branch, is_open, open_branch, open_branches, branches_of, is_covered}
use Rattle.cov_analysis.specs.Hits.{takes, is_taken}
use Rattle.cov_analysis.specs.Lines.{is_among, without}
use Rattle.cov_combine.specs.Aliases.{alias_of}
use Rattle.cov_combine.proofs.Laws.{combined-any_order}
use Rattle.cov_data.specs.DataSet.{Text, Place, DataSet, file_of}
use Rattle.cov_data.specs.Rows.{row_of, file_rows, file_arcs, arcs_of, lines_of}
use Rattle.cov_data.proofs.ArcLists.{among-Contains, Contains-among, among-in_order}
use Rattle.cov_exclude.specs.Sources.{excluded_in, no_branch_in}
use Rattle.cov_headline.specs.Origins.{Origin, data_of, Takes, Executes, HasTaken}
use Rattle.cov_headline.specs.Reports.{MissingAre, ReportLaw, OrderLaw}
use Rattle.cov_headline.proofs.Lists.{never, first-or-later, as-first, as-later, kept, not-true, is-not, left-true, right-true, either-true, among, without-has, from-one}
use Rattle.cov_headline.proofs.Taking.{law_of_origins}

-- ---- rows that take a branch

abbrev pairs : List (Place × ℕ) → List (ℤ × ℤ)
pairs es = map (λ e. e.0.1) es

both-true : (a b : Bool) → (a && b) ≡ true → (a ≡ true) × (b ≡ true)
both-true true b h = (refl, h)
both-true false b h = cc

all-true : (a b : Bool) → a ≡ true → b ≡ true → (a && b) ≡ true
all-true true b h g = g
all-true false b h g = cc

module _ (path : Text) (b : Branch) where
  abbrev arc : ℤ × ℤ
  arc = (pos b.0, b.1)

  same-arc : (from to : ℤ) → (int_eq from (pos b.0) && int_eq to b.1) ≡ true → ◌≡◌ {A = ℤ × ℤ} (from, to) arc
  same-arc from to h =
      let both = both-true (int_eq from (pos b.0)) (int_eq to b.1) h in
      let x : from ≡ pos b.0 = (Decides-int_eq from (pos b.0)).0 both.0 in
      let y : to ≡ b.1 = (Decides-int_eq to b.1).0 both.1 in
      λ i. (x i, y i)

  itself : (int_eq (pos b.0) (pos b.0) && int_eq b.1 b.1) ≡ true
  itself = all-true (int_eq (pos b.0) (pos b.0)) (int_eq b.1 b.1) ((Decides-int_eq (pos b.0) (pos b.0)).1 refl) ((Decides-int_eq b.1 b.1).1 refl)

  row-pair : (es : List (Place × ℕ)) → list_any (takes b) (map (row_of path) es) ≡ true → Contains (pairs es) arc
  row-pair [] h = cc
  row-pair (e ∷ es) h = elim (either-true (takes b (row_of path e)) (list_any (takes b) (map (row_of path) es)) h) [
    | inl here ↦ subst (λ x. Contains (e.0.1 ∷ pairs es) x) (same-arc e.0.1.0 e.0.1.1 here) (as-first e.0.1 (pairs es))
    | inr later ↦ as-later e.0.1 (pairs es) arc (row-pair es later)
  ]

  pair-row : (es : List (Place × ℕ)) → Contains (pairs es) arc → list_any (takes b) (map (row_of path) es) ≡ true
  pair-row [] h = absurd (never arc h)
  pair-row (e ∷ es) h = elim (first-or-later e.0.1 (pairs es) arc h) [
    | inl same ↦ left-true (takes b (row_of path e)) (list_any (takes b) (map (row_of path) es)) (subst (λ (x : ℤ × ℤ). (int_eq x.0 (pos b.0) && int_eq x.1 b.1) ≡ true) (sym same) itself)
    | inr later ↦ right-true (takes b (row_of path e)) (list_any (takes b) (map (row_of path) es)) (pair-row es later)
  ]

  -- of data of arcs
  is-taken : (d : DataSet) → d.arcs ≡ true → (is_taken (file_rows path (file_of d path)) b ≡ true) ↔ Contains (arcs_of d path) arc
  is-taken d kind =
      let es = entries (file_of d path) in
      let in_order = among-in_order arc (pairs es) in
      let listed : arcs_of d path ≡ file_arcs (file_of d path) = ap (λ k. cond k (file_arcs (file_of d path)) []) kind in (
        λ h. subst (λ l. Contains l arc) (sym listed) (among-Contains arc (file_arcs (file_of d path)) (in_order ∙ Contains-among arc (pairs es) (row-pair es h))),
        λ h. pair-row es (among-Contains arc (pairs es) (sym in_order ∙ Contains-among arc (file_arcs (file_of d path)) (subst (λ l. Contains l arc) listed h))),
      )

-- ---- branches are predicted

of-line : (excluded : List ℕ) (a : Arc) (b : Branch) → Contains (open_branch excluded a) b → a ≡ (pos b.0, b.1)
of-line excluded (pos line, to) b h = elim (first-or-later (line, to) [] b ((kept (is_open excluded) ((line, to) ∷ []) b).0 h).0) [
  | inl same ↦ λ i. (pos (same i).0, (same i).1)
  | inr none ↦ absurd (never b none)
]
of-line excluded (negsuc n, to) b h = absurd (never b h)

branch-predicted : (excluded : List ℕ) (arcs : List Arc) (b : Branch) → Contains (branches_of excluded arcs) b → Contains arcs (pos b.0, b.1)
branch-predicted excluded arcs b h =
    let opened = open_branches excluded arcs in
    let at = from-one (open_branch excluded) arcs b ((kept _ opened b).0 h).0 in
    subst (λ a. Contains arcs a) (of-line excluded at.0 b at.2) at.1

-- ---- a report

module _ (exclude partial : List (List ℕ)) (path : Text) (text : List ℕ) (body : Stmts) (arcs : Bool) (o : Origin) (law : HasTaken arcs o) where
  abbrev excluded : List ℕ
  excluded = excluded_in exclude body text

  abbrev freed : List ℕ
  freed = no_branch_in partial body text

  abbrev d : DataSet
  d = data_of o

  lines-missing : (line : ℕ) → 0 < line → Contains (analysis_of path (source_of exclude partial body text) (taken_of d path)).missing line
      ↔ (Contains (statement_lines body) line × ¬ (Contains excluded line) × ¬ (Executes o path line))
  lines-missing line low =
      let outer = without-has (without (statement_lines body) excluded) (lines_of d path) line in
      let inner = without-has (statement_lines body) excluded line in
      let e = law.executed path line low in (
        λ h. let x = outer.0 h in let y = inner.0 x.0 in (y.0, y.1, λ there. x.1 (e.1 there)),
        λ h. outer.1 (inner.1 (h.0, h.1), λ there. h.2 (e.0 there)),
      )

  -- the branches that are listed, where data are of arcs
  listed : (k : Bool) → k ≡ true → (if k then branches_of excluded (predicted body) else []) ≡ branches_of excluded (predicted body)
  listed true h = refl
  listed false h = cc

  none-listed : (k : Bool) → k ≡ false → ◌≡◌ {A = List Branch} (if k then branches_of excluded (predicted body) else []) []
  none-listed true h = cc
  none-listed false h = refl

  abbrev passes : Branch → Bool
  passes b = not (is_covered freed (is_taken (file_rows path (file_of d path))) b)

  branches-missing : arcs ≡ true → (b : Branch) → Contains (analysis_of path (source_of exclude partial body text) (taken_of d path)).missing_branches b
      ↔ (Contains (branches_of excluded (predicted body)) b × ¬ (Contains freed b.0) × ¬ (Takes o path (pos b.0, b.1)))
  branches-missing t b =
      let kind : d.arcs ≡ true = law.kind ∙ t in
      let same = ap (filter passes) (listed d.arcs kind) in
      let s = kept passes (branches_of excluded (predicted body)) b in
      let free = is_among freed b.0 in
      let taken = is_taken (file_rows path (file_of d path)) b in
      let by_rows = is-taken path b d kind in
      let by_runs = law.taken t path (pos b.0, b.1) in (
        λ h.
            let x = s.0 (subst (λ l. Contains l b) same h) in (
              x.0,
              λ there. not-true (free || taken) x.1 (left-true free taken ((among freed b.0).1 there)),
              λ took. not-true (free || taken) x.1 (right-true free taken (by_rows.1 (by_runs.1 took))),
            ),
        λ h. subst (λ l. Contains l b) (sym same) (s.1 (
          h.0,
          is-not (free || taken) (λ either. elim (either-true free taken either) [
            | inl there ↦ h.1 ((among freed b.0).0 there)
            | inr took ↦ h.2 (by_runs.0 (by_rows.0 took))
          ]),
        )),
      )

  -- whatever the kind of data, a branch that is listed is predicted
  any-predicted : (k : Bool) (b : Branch) → Contains (filter passes (if k then branches_of excluded (predicted body) else [])) b → Contains (predicted body) (pos b.0, b.1)
  any-predicted true b h = branch-predicted excluded (predicted body) b ((kept passes (branches_of excluded (predicted body)) b).0 h).0
  any-predicted false b h = absurd (never b h)

  report-so : MissingAre exclude partial path text body arcs o (analysis_of path (source_of exclude partial body text) (taken_of d path))
  report-so = record {
    lines = lines-missing;
    branches = branches-missing;
    predicted = any-predicted d.arcs;
    none = λ f. ap (filter passes) (none-listed d.arcs (law.kind ∙ f));
  }

pub law_of_reports : ReportLaw
law_of_reports exclude partial path text body arcs o is = report-so exclude partial path text body arcs o (law_of_origins arcs o is)

-- ---- in any order

pub law_of_order : OrderLaw
law_of_order rules ds es some alike moved =
    let same = combined-any_order (alias_of rules) ds es some alike moved in record {
      same = same;
      analyses = λ exclude partial path text body. ap (λ d. analysis_of path (source_of exclude partial body text) (taken_of d path)) same;
    }
