-- The report of its lines.
use Rattle.std.proofs.Common.{◌≡◌, ◌++◌, ℕ, Bool, List, [], map, codes, ap, sym, ◌∙◌}
use Rattle.cov_analysis.specs.Analyses.{AnalysisView, analysis_view}
use Rattle.cov_analysis.specs.Counts.{numbers_of, total_of}
use Rattle.cov_analysis.specs.declared.analysis.Analysis.{Analysis}
use Rattle.cov_analysis.specs.declared.numbers.Numbers.{Numbers}
use Rattle.cov_text.specs.Report.{name_width, header, row, rows, rule, text_bytes}
use Rattle.cov_text.proofs.Lists.{map-map}

abbrev lines : List ℕ → List ℕ → List ℕ → List ℕ → List ℕ
lines head dashes body total =
    head ++ (codes "\n" ++ (dashes ++ (codes "\n" ++ (body ++ (dashes ++ (codes "\n" ++ (total ++ codes "\n")))))))

pub whole_is : (files : List Analysis) (arcs missing : Bool) (width : ℕ) (numbers : Numbers) (head dashes body total : List ℕ) → width ≡ name_width (map analysis_view files) → numbers ≡ total_of (map numbers_of files) → head ≡ header width arcs missing → dashes ≡ rule head → body ≡ rows width arcs missing (map analysis_view files) → total ≡ row width arcs (codes "TOTAL") numbers [] → lines head dashes body total ≡ text_bytes (map analysis_view files) arcs missing
whole_is files arcs missing width numbers head dashes body total width-is numbers-is head-is dashes-is body-is total-is =
    let views = map analysis_view files in
    let name = codes "TOTAL" in
    let sums : numbers ≡ total_of (map (λ (file : AnalysisView). file.numbers) views) = numbers-is ∙ ap total_of (sym (map-map analysis_view (λ (file : AnalysisView). file.numbers) files)) in
    ap (λ (r : List ℕ). lines head r body total) dashes-is
    ∙ ap (λ (h : List ℕ). lines h (rule h) body total) head-is
    ∙ ap (λ (b : List ℕ). lines (header width arcs missing) (rule (header width arcs missing)) b total) body-is
    ∙ ap (λ (t : List ℕ). lines (header width arcs missing) (rule (header width arcs missing)) (rows width arcs missing views) t) total-is
    ∙ ap (λ (n : Numbers). lines (header width arcs missing) (rule (header width arcs missing)) (rows width arcs missing views) (row width arcs name n [])) sums
    ∙ ap (λ (w : ℕ). lines (header w arcs missing) (rule (header w arcs missing)) (rows w arcs missing views) (row w arcs name (total_of (map (λ (file : AnalysisView). file.numbers) views)) [])) width-is
