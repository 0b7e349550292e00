use Rattle.std.proofs.Common.{◌≡◌, ◌++◌, ◌+◌, ◌∷◌, ℕ, List, map, drop, ap, sym, ◌∙◌, string_bytes, append-nil}
use Rattle.std.proofs.lemmas.List.{at_drop_more, at_drop_all}
use Rattle.cov_analysis.specs.Analyses.{AnalysisView, analysis_view}
use Rattle.cov_analysis.specs.declared.analysis.Analysis.{Analysis}
use Rattle.cov_text.specs.Report.{rows, file_row}
use Rattle.cov_text.proofs.Lists.{appended}
use Rattle.cov_text.proofs.report.rows.Goals as goal

pub loop-file-preserved : goal.loop-file-preserved
loop-file-preserved c =
    let file = c.file-item.result in
    let files = c.args.files.now in
    let i = c.loop-file.file-index in
    let text = string_bytes c.loop-file.text in
    let line : AnalysisView → List ℕ = file_row c.args.columns.width c.args.columns.arcs c.args.missing in
    let there : List Analysis → List ℕ = λ xs. text ++ rows c.args.columns.width c.args.columns.arcs c.args.missing (map analysis_view xs) in
    let here = at_drop_more there files i file c.loop-file-test.true ∙ ap (λ (x : Analysis). there (x ∷ drop (i + 1) files)) (sym c.file-item.is) in
    let grown : string_bytes c.push_str.new.self ≡ text ++ line (analysis_view file) = c.in_ok-push_str.ensures.bytes ∙ ap (λ (r : List ℕ). text ++ r) (c.as_str.ensures.value ∙ c.in_ok-row.ensures) in
    appended line text (string_bytes c.push_str.new.self) _ (analysis_view file) (map analysis_view (drop (i + 1) files)) grown (sym here ∙ c.loop-file.invariant)

pub returns : goal.returns
returns c =
    let there : List Analysis → List ℕ = λ xs. string_bytes c.loop-file.text ++ rows c.args.columns.width c.args.columns.arcs c.args.missing (map analysis_view xs) in
    sym (append-nil (string_bytes c.loop-file.text)) ∙ sym (at_drop_all there c.args.files.now c.loop-file.file-index c.loop-file-test.false) ∙ c.loop-file.invariant
