-- Lists of analyses.
use Rattle.std.proofs.Common.{◌≡◌, ℕ, ◌+◌, ◌<◌, List, [], ◌∷◌, ◌++◌, length, take, get_or, map, ap, sym, ◌∙◌, subst, Result, Ok, Err}
use Rattle.std.specs.Prelude.{IfOk}
use Rattle.py_syntax.specs.Tree.{Stmts}
use Rattle.std.proofs.lemmas.List.{map-append, take_more}
use Rattle.std.proofs.lemmas.List.Elements.{All-push}
use Rattle.cov_analysis.specs.Analyses.{AreReportable, IsReportable, analysis_of, analysis_view, source_of, taken_of}
use Rattle.cov_analysis.specs.declared.analysis.Analysis.{Analysis}
use Rattle.cov_data.specs.DataSet.{DataSet}
use Rattle.cov_step.specs.Calls.{Patterns}
use Rattle.cov_step.specs.Phases.{analysed}
use Rattle.cov_reports.specs.Views.{source_view}
use Rattle.cov_reports.specs.declared.sources.ReportedSource.{ReportedSource}

-- the analysis of one more source
pub one-more : (p : Patterns) (d : DataSet) (files also : List Analysis) (file : Analysis) (sources : List ReportedSource) (i : ℕ) (source : ReportedSource) → i < length sources → source ≡ get_or sources i source
    → also ≡ files ++ file ∷ [] → map analysis_view files ≡ map (analysed p d) (map source_view (take i sources)) → analysis_view file ≡ analysed p d (source_view source)
    → map analysis_view also ≡ map (analysed p d) (map source_view (take (i + 1) sources))
one-more p d files also file sources i source lt is more h f =
    ap (map analysis_view) more
    ∙ map-append analysis_view files (file ∷ [])
    ∙ ap (λ vs. vs ++ analysis_view file ∷ []) h
    ∙ ap (λ v. map (analysed p d) (map source_view (take i sources)) ++ v ∷ []) (f ∙ ap (λ s. analysed p d (source_view s)) is)
    ∙ sym (ap (λ ss. map (analysed p d) (map source_view ss)) (take_more sources i source lt)
    ∙ ap (map (analysed p d)) (map-append source_view (take i sources) (get_or sources i source ∷ []))
    ∙ map-append (analysed p d) (map source_view (take i sources)) (source_view (get_or sources i source) ∷ []))

-- it is one that reports take
pub reportable-more : (files also : List Analysis) (file : Analysis) → also ≡ files ++ file ∷ [] → AreReportable files → IsReportable (analysis_view file) → AreReportable also
reportable-more files also file more h f = subst AreReportable (sym more) (All-push (λ (x : Analysis). IsReportable (analysis_view x)) files file h f)

-- what holds of a value that is given, holds so
pub weaker : {A E : Type 0} (d : Result A E) (P Q : A → Type 0) → ((a : A) → P a → Q a) → IfOk d P → IfOk d Q
weaker (Ok a) P Q f h = f a h
weaker (Err e) P Q f h = tt

-- the analysis of a path and a text under other names
pub analysed-so : (p : Patterns) (d : DataSet) (body : Stmts) {path also text same : List ℕ} → path ≡ also → text ≡ same
    → analysis_of path (source_of p.exclude p.partial body text) (taken_of d path) ≡ analysed p d (record { path = also; text = same; body = body })
analysed-so p d body {also = also} {text = text} is too =
    ap (λ (x : List ℕ). analysis_of x (source_of p.exclude p.partial body text) (taken_of d x)) is ∙ ap (λ (x : List ℕ). analysis_of also (source_of p.exclude p.partial body x) (taken_of d also)) too
