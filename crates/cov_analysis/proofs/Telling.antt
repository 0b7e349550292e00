-- What data tell of a path, and the analysis as a whole.
use Rattle.std.proofs.Common.{◌≡◌, ℕ, Bool, List, length, map, ap, ◌∙◌}
use Rattle.std.specs.List.{count_by}
use Rattle.cov_data.specs.DataSet.{DataSet, file_of}
use Rattle.cov_data.specs.Rows.{RowView, lines_of, file_rows}
use Rattle.cov_analysis.specs.Lines.{is_among, without}
use Rattle.cov_analysis.specs.Branches.{Branch, missing_branches_of}
use Rattle.cov_analysis.specs.Hits.{line_count, is_taken, branch_count, line_hits, branch_hits}
use Rattle.cov_analysis.specs.Analyses.{Source, Taken, taken_of, AnalysisView, analysis_of, statements_in, branches_in}
use Rattle.cov_analysis.specs.declared.numbers.Numbers.{Numbers}

-- what look-ups that agree with the rows of a path tell
pub told : (arcs : Bool) (executed : List ℕ) (count : ℕ → ℕ) (taken : Branch → Bool) (counts : Branch → ℕ) (d : DataSet) (path : List ℕ) (rows : List RowView)
    → arcs ≡ d.arcs → executed ≡ lines_of d path → rows ≡ file_rows path (file_of d path)
    → ((line : ℕ) → count line ≡ line_count rows line) → ((branch : Branch) → taken branch ≡ is_taken rows branch) → ((branch : Branch) → counts branch ≡ branch_count rows branch)
    → ◌≡◌ {A = Taken} (record { arcs = arcs; executed = executed; line_count = count; is_taken = taken; branch_count = counts }) (taken_of d path)
told arcs executed count taken counts d path rows flag lines same by_line by_taken by_count i = record {
  arcs = flag i;
  executed = lines i;
  line_count = λ line. (by_line line ∙ ap (λ rs. line_count rs line) same) i;
  is_taken = λ branch. (by_taken branch ∙ ap (λ rs. is_taken rs branch) same) i;
  branch_count = λ branch. (by_count branch ∙ ap (λ rs. branch_count rs branch) same) i;
}

-- the numbers of these lists
pub record AreCounted (n : Numbers) (statements missing excluded : List ℕ) (branches untaken : List Branch) (executed : List ℕ) : Type 0 where
  pub statements_is : n.statements ≡ length statements
  pub missing_is : n.missing ≡ length missing
  pub excluded_is : n.excluded ≡ length excluded
  pub branches_is : n.branches ≡ length branches
  pub untaken_is : n.missing_branches ≡ length untaken
  pub partial_is : n.partial ≡ count_by (λ branch. is_among executed branch.0) untaken

module _ (source : Source) (taken : Taken) where
  missing-is : (statements missing : List ℕ) → statements ≡ statements_in source → missing ≡ without statements taken.executed → missing ≡ without (statements_in source) taken.executed
  missing-is statements missing s m = m ∙ ap (λ ls. without ls taken.executed) s

  untaken-is : (branches untaken : List Branch) → branches ≡ branches_in source taken → untaken ≡ missing_branches_of source.no_branch taken.is_taken branches
      → untaken ≡ missing_branches_of source.no_branch taken.is_taken (branches_in source taken)
  untaken-is branches untaken b u = u ∙ ap (missing_branches_of source.no_branch taken.is_taken) b

  -- an analysis whose lists are made one after the other
  pub whole : (path now statements excluded missing : List ℕ) (branches untaken : List Branch) (hits taken_hits : List ℕ) (numbers : Numbers)
      → now ≡ path → statements ≡ statements_in source → excluded ≡ source.excluded → missing ≡ without statements taken.executed
      → branches ≡ branches_in source taken → untaken ≡ missing_branches_of source.no_branch taken.is_taken branches
      → hits ≡ map (line_hits taken.executed taken.line_count) statements → taken_hits ≡ map (branch_hits source.no_branch taken.is_taken taken.branch_count) branches
      → AreCounted numbers statements missing excluded branches untaken taken.executed
      → ◌≡◌ {A = AnalysisView}
      (record { path = now; statements = statements; excluded = excluded; missing = missing; branches = branches; missing_branches = untaken; hits = hits; branch_hits = taken_hits; numbers = numbers })
      (analysis_of path source taken)
  whole path now statements excluded missing branches untaken hits taken_hits numbers p s x m b u h t n i = record {
    path = p i;
    statements = s i;
    excluded = x i;
    missing = missing-is statements missing s m i;
    branches = b i;
    missing_branches = untaken-is branches untaken b u i;
    hits = (h ∙ ap (map (line_hits taken.executed taken.line_count)) s) i;
    branch_hits = (t ∙ ap (map (branch_hits source.no_branch taken.is_taken taken.branch_count)) b) i;
    numbers = record {
      statements = (n.statements_is ∙ ap length s) i;
      missing = (n.missing_is ∙ ap length (missing-is statements missing s m)) i;
      excluded = (n.excluded_is ∙ ap length x) i;
      branches = (n.branches_is ∙ ap length b) i;
      missing_branches = (n.untaken_is ∙ ap length (untaken-is branches untaken b u)) i;
      partial = (n.partial_is ∙ ap (count_by (λ branch. is_among taken.executed branch.0)) (untaken-is branches untaken b u)) i;
    };
  }
