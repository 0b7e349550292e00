-- Objects that are put together member by member.
use Rattle.std.proofs.Common.{◌≡◌, ℕ, ◌+◌, ◌-◌, ◌<◌, Bool, true, false, List, [], ◌∷◌, length, take, get_or, map, codes, decimal, String, Global, BTreeMap, refl, sym, ap, ap₂, ◌∙◌}
use Rattle.std.specs.List.{fold}
use Rattle.std.proofs.lemmas.List.{map_more}
use Rattle.std.proofs.lemmas.List.Sums.{fold_push}
use Rattle.serde_json.specs.Data.{Data, string, object, Members, no_members, put}
use Rattle.serde_json.specs.View.{view, members_view}
use Rattle.serde_json.specs.declared.value.Value.{Value, Object}
use Rattle.serde_json.proofs.Views.{view-Object}
use Rattle.cov_analysis.specs.Analyses.{AnalysisView, analysis_view}
use Rattle.cov_analysis.specs.declared.analysis.Analysis.{Analysis}
use Rattle.cov_analysis.specs.Counts.{numbers_of, total_of}
use Rattle.cov_analysis.specs.Percentage.{percent}
use Rattle.cov_analysis.specs.declared.numbers.Numbers.{Numbers}
use Rattle.cov_json.specs.Json.{whole, lines, branches, executed_lines, executed_branches, summary, file_value, with_file, files_value, meta, report}

-- one more member, with its value by another name
pub put_is : (key : List ℕ) (value named : Data) (old new before : Members) → new ≡ put key value old → value ≡ named → old ≡ before → new ≡ put key named before
put_is key value named old new before grown is was = grown ∙ ap₂ (put key) is was

-- the numbers of lines, and those of branches with them
abbrev pub of_lines : Numbers → List ℕ → Members
of_lines n text =
    put (codes "percent_covered_display") (string text) (put (codes "num_statements") (whole n.statements) (put (codes "missing_lines") (whole n.missing)
    (put (codes "excluded_lines") (whole n.excluded) (put (codes "covered_lines") (whole (n.statements - n.missing)) no_members))))

abbrev pub with_branches : Numbers → Members → Members
with_branches n members =
    put (codes "num_partial_branches") (whole n.partial) (put (codes "num_branches") (whole n.branches) (put (codes "missing_branches") (whole n.missing_branches)
    (put (codes "covered_branches") (whole (n.branches - n.missing_branches)) members)))

-- the object of numbers
pub summary_arcs : (map : BTreeMap (String Global) Value) (arcs : Bool) (n : Numbers) → arcs ≡ true → members_view map.entries ≡ with_branches n (of_lines n (decimal (percent n))) → view (Object map) ≡ summary arcs n
summary_arcs map arcs n both is = view-Object map ∙ ap object is ∙ ap (λ a. summary a n) (sym both)

pub summary_lines : (map : BTreeMap (String Global) Value) (arcs : Bool) (n : Numbers) → arcs ≡ false → members_view map.entries ≡ of_lines n (decimal (percent n)) → view (Object map) ≡ summary arcs n
summary_lines map arcs n none is = view-Object map ∙ ap object is ∙ ap (λ a. summary a n) (sym none)

-- the lists of lines of a file with its numbers, and those of branches with them
abbrev pub file_lines : Bool → AnalysisView → Members
file_lines arcs file =
    put (codes "summary") (summary arcs file.numbers) (put (codes "missing_lines") (lines file.missing) (put (codes "executed_lines") (lines (executed_lines file)) (put (codes "excluded_lines") (lines file.excluded) no_members)))

abbrev pub with_file_branches : AnalysisView → Members → Members
with_file_branches file members =
    put (codes "missing_branches") (branches file.missing_branches) (put (codes "executed_branches") (branches (executed_branches file)) members)

-- the object of a file
pub file_arcs : (map : BTreeMap (String Global) Value) (arcs : Bool) (file : AnalysisView) → arcs ≡ true → members_view map.entries ≡ with_file_branches file (file_lines arcs file) → view (Object map) ≡ file_value arcs file
file_arcs map arcs file both is =
    view-Object map ∙ ap object is ∙ ap (λ a. object (with_file_branches file (file_lines a file))) both ∙ ap (λ a. file_value a file) (sym both)

pub file_of_lines : (map : BTreeMap (String Global) Value) (arcs : Bool) (file : AnalysisView) → arcs ≡ false → members_view map.entries ≡ file_lines arcs file → view (Object map) ≡ file_value arcs file
file_of_lines map arcs file none is =
    view-Object map ∙ ap object is ∙ ap (λ a. object (file_lines a file)) none ∙ ap (λ a. file_value a file) (sym none)

-- the files so far, and one more
pub files_more : (arcs : Bool) (files : List Analysis) (at : ℕ) (file : Analysis) (old new : Members) → at < length files → file ≡ get_or files at file → new ≡ with_file arcs old (analysis_view file)
    → old ≡ fold (with_file arcs) no_members (map analysis_view (take at files)) → new ≡ fold (with_file arcs) no_members (map analysis_view (take (at + 1) files))
files_more arcs files at file old new within is after before =
    let here : new ≡ with_file arcs (fold (with_file arcs) no_members (map analysis_view (take at files))) (analysis_view (get_or files at file)) =
    after ∙ ap₂ (with_file arcs) before (ap analysis_view is) in
    here ∙ sym (fold_push (with_file arcs) no_members (map analysis_view (take at files)) (analysis_view (get_or files at file)))
    ∙ ap (fold (with_file arcs) no_members) (sym (map_more analysis_view files at file within))

numbers-of : (files : List Analysis) → map numbers_of files ≡ map (λ file. file.numbers) (map analysis_view files)
numbers-of [] = refl
numbers-of (file ∷ files) = ap (λ rest. file.numbers ∷ rest) (numbers-of files)

-- the object of a report
pub report_is : (object' : BTreeMap (String Global) Value) (files : List Analysis) (arcs : Bool) (totals : Numbers) → totals ≡ total_of (map numbers_of files)
    → members_view object'.entries
    ≡ put (codes "files") (files_value arcs (map analysis_view files)) (put (codes "totals") (summary arcs totals) (put (codes "meta") (meta arcs) no_members))
    → view (Object object') ≡ report (map analysis_view files) arcs
report_is object' files arcs totals sums is =
    let same : totals ≡ total_of (map (λ file. file.numbers) (map analysis_view files)) = sums ∙ ap total_of (numbers-of files) in
    view-Object object' ∙ ap object is
    ∙ ap (λ n. object (put (codes "files") (files_value arcs (map analysis_view files)) (put (codes "totals") (summary arcs n) (put (codes "meta") (meta arcs) no_members)))) same
