-- An analysis meets what reports ask of it.
use Rattle.std.proofs.Common.{◌≤◌, ℕ, suc, Bool, true, false, not, cond, if◌then◌else◌, List, [], ◌∷◌, length, arith}
use Rattle.std.specs.Prelude.{filter}
use Rattle.std.specs.List.{AllByRecursion}
use Rattle.std.proofs.lemmas.List.{length-map}
use Rattle.std.proofs.lemmas.List.Elements.{All-map, All-tail, All-weaker}
use Rattle.py_syntax.specs.Marks.{statement_lines}
use Rattle.py_syntax.specs.Tree.{Stmts}
use Rattle.py_line_laws.specs.Lines.{IsLine}
use Rattle.py_line_laws.proofs.Laws.{lines_law}
use Rattle.cov_analysis.specs.Counts.{IsCounted, numbers_of}
use Rattle.cov_analysis.specs.Lines.{is_among, AreLines, IsOfText}
use Rattle.cov_analysis.specs.Branches.{branches_of, is_covered}
use Rattle.cov_analysis.specs.Hits.{line_hits, branch_hits}
use Rattle.cov_analysis.specs.Analyses.{Source, Taken, source_of, analysis_view, analysis_of, statements_in, branches_in, IsReportable, ReportsLaw}
use Rattle.cov_analysis.proofs.Leaving.{predicted-at}
use Rattle.cov_analysis.proofs.Many.{IsSmall, IsLow, few_lines, few_branches, kept, low_branches}
use Rattle.cov_analysis.proofs.Ordered.{rises_of}

-- no more than there were
fewer : {X : Type 0} (p : X → Bool) (xs : List X) → length (filter p xs) ≤ length xs
fewer p [] = omega arith
fewer p (x ∷ xs) =
    let rest : length (filter p xs) ≤ length xs = fewer p xs in
    elim (p x) as (λ b. length (cond b (x ∷ filter p xs) (filter p xs)) ≤ suc (length xs)) [ true ↦ omega (arith, rest) | false ↦ omega (arith, rest) ]

small : (lines : List ℕ) → AreLines lines → AllByRecursion IsSmall lines
small [] h = tt
small (l ∷ lines) h = (h 0 l (omega arith), small lines (All-tail IsSmall l lines h))

low : (source : Source) (taken : Taken) → AllByRecursion IsLow (branches_of source.excluded source.arcs) → AllByRecursion IsLow (branches_in source taken)
low source taken h = elim taken.arcs as (λ b. AllByRecursion IsLow (if b then branches_of source.excluded source.arcs else [])) [ true ↦ h | false ↦ tt ]

pub reportable_of : (path : List ℕ) (exclude partial : List (List ℕ)) (m : Stmts) (text : List ℕ) (taken : Taken) → AreLines (statement_lines m) → IsReportable (analysis_of path (source_of exclude partial m text) taken)
reportable_of path exclude partial m text taken lines =
    let source = source_of exclude partial m text in
    let in_order = rises_of path exclude partial m text taken in
    let marks = small (statement_lines m) lines in
    let arcs = predicted-at IsSmall m (omega arith) marks in
    record {
      numbers = record {
        missing = fewer (λ line. not (is_among taken.executed line)) (statements_in source);
        missing_branches = fewer (λ branch. not (is_covered source.no_branch taken.is_taken branch)) (branches_in source taken);
        statements = few_lines (statements_in source) (kept IsSmall (λ line. not (is_among source.excluded line)) source.lines marks) in_order.statements.rises;
        branches = few_branches (branches_in source taken) (low source taken (low_branches source.excluded source.arcs arcs)) in_order.branches;
      };
      hits = length-map (statements_in source) (line_hits taken.executed taken.line_count);
      branch_hits = length-map (branches_in source taken) (branch_hits source.no_branch taken.is_taken taken.branch_count);
    }

-- the statement lines of a module that is read from a text
pub lines_of_text : (m : Stmts) → IsOfText m → AreLines (statement_lines m)
lines_of_text m text = All-weaker IsLine (λ line. line ≤ 65535) (λ line is. is.1) (statement_lines m) (lines_law m text.tokens text.on_lines text.spelled)

pub reports_law : ReportsLaw
reports_law files each =
    (All-weaker (λ file. IsReportable (analysis_view file)) (λ file. IsCounted (numbers_of file)) (λ file is. is.numbers) files each, All-map IsReportable analysis_view files each)
