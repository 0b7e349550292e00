-- What a report tells of a source, by the runs that its data come from.
--     MissingAre              the missing lines and branches of a source
--     ReportLaw               an analysis has these, and no others
--     OrderLaw                in whatever order data are combined
use Rattle.std.specs.Prelude.{◌≡◌, ◌↔◌, ℕ, ◌<◌, Bool, true, false, List, [], length, Contains, pos}
use Rattle.std.specs.List.Sorted.{IsPermutation}
use Rattle.py_syntax.specs.Marks.{statement_lines}
use Rattle.py_syntax.specs.Prediction.{predicted}
use Rattle.py_syntax.specs.Tree.{Stmts}
use Rattle.cov_analysis.specs.Analyses.{AnalysisView, source_of, taken_of, analysis_of}
use Rattle.cov_analysis.specs.Branches.{Branch, branches_of}
use Rattle.cov_combine.specs.Aliases.{Rules, alias_of}
use Rattle.cov_combine.specs.Combined.{has_both_kinds, combined}
use Rattle.cov_data.specs.DataSet.{Text as Bytes, DataSet}
use Rattle.cov_exclude.specs.Sources.{excluded_in, no_branch_in}
use Rattle.cov_headline.specs.Origins.{Origin, data_of, Takes, Executes, IsOf}

-- Of the source of a module at a path, with the texts of the patterns that exclude a line and of
-- those that free its branches, over data that come from runs and from data that were found. A
-- statement line is missing that isn't excluded and that none of these executed, and no other is.
-- Of data of arcs a branch is missing that none of these took, from a line that must take all of
-- its branches, and no other is. Each branch is predicted. Of data of lines none is missing.
pub record MissingAre (exclude partial : List (List ℕ)) (path : Bytes) (text : List ℕ)
    (body : Stmts) (arcs : Bool) (o : Origin) (a : AnalysisView) : Type 0 where
  pub lines : (line : ℕ) → 0 < line
      → Contains a.missing line
      ↔ (Contains (statement_lines body) line
      × ¬ (Contains (excluded_in exclude body text) line) × ¬ (Executes o path line))
  pub branches : arcs ≡ true → (b : Branch)
      → Contains a.missing_branches b
      ↔ (Contains (branches_of (excluded_in exclude body text) (predicted body)) b
      × ¬ (Contains (no_branch_in partial body text) b.0) × ¬ (Takes o path (pos b.0, b.1)))
  pub predicted : (b : Branch) → Contains a.missing_branches b
      → Contains (predicted body) (pos b.0, b.1)
  pub none : arcs ≡ false → a.missing_branches ≡ []

-- So it is of each analysis of data that come from runs.
abbrev pub ReportLaw : Type 0
ReportLaw =
    (exclude partial : List (List ℕ)) (path : Bytes) (text : List ℕ) (body : Stmts)
    (arcs : Bool) (o : Origin) → IsOf arcs o
    → MissingAre exclude partial path text body arcs o
    (analysis_of path (source_of exclude partial body text) (taken_of (data_of o) path))

-- Data of one kind that are combined in another order are the same, and so is each analysis.
pub record IsSameCombined (rules : Rules) (ds es : List DataSet) : Type 0 where
  pub same : combined (alias_of rules) ds ≡ combined (alias_of rules) es
  pub analyses :
      (exclude partial : List (List ℕ)) (path : Bytes) (text : List ℕ) (body : Stmts)
      → analysis_of path (source_of exclude partial body text)
      (taken_of (combined (alias_of rules) ds) path)
      ≡ analysis_of path (source_of exclude partial body text)
      (taken_of (combined (alias_of rules) es) path)

-- so it is in whatever order
abbrev pub OrderLaw : Type 0
OrderLaw =
    (rules : Rules) (ds es : List DataSet) → 0 < length ds → has_both_kinds ds ≡ false
    → IsPermutation ds es → IsSameCombined rules ds es
