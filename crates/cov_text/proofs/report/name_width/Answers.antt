use Rattle.std.proofs.Common.{◌≡◌, ◌+◌, ◌∷◌, ◌<◌, ◌^◌, ℕ, List, length, map, max, drop, fold, ap, sym, ◌∙◌, string_bytes, arith}
use Rattle.std.specs.Str.{chars}
use Rattle.std.proofs.lemmas.List.{at_drop_more, at_drop_all}
use Rattle.cov_analysis.specs.Analyses.{analysis_view}
use Rattle.cov_analysis.specs.declared.analysis.Analysis.{Analysis}
use Rattle.cov_text.specs.Report.{name_length}
use Rattle.cov_text.proofs.Lists.{max_is}
use Rattle.cov_text.proofs.report.name_width.Goals as goal

pub loop-file-preserved : goal.loop-file-preserved
loop-file-preserved c =
    let file = c.file-item.result in
    let files = c.args.files.now in
    let i = c.loop-file.file-index in
    let longest = c.loop-file.longest in
    let greatest : List Analysis → ℕ = λ xs. fold max longest (map name_length (map analysis_view xs)) in
    let here = at_drop_more greatest files i file c.loop-file-test.true ∙ ap (λ (x : Analysis). greatest (x ∷ drop (i + 1) files)) (sym c.file-item.is) in
    let count : c.char_count.result ≡ length (chars (string_bytes file.path)) = c.char_count.ensures.count ∙ ap (λ (t : List ℕ). length (chars t)) c.as_str.ensures.value in
    let now : c.max-longest.result ≡ max longest (length (chars (string_bytes file.path))) = c.max-longest.ensures ∙ max_is longest c.char_count.result ∙ ap (max longest) count in
    let small : c.max-longest.result < 2 ^ 63 = omega (arith, c.max-longest.ensures ∙ max_is longest c.char_count.result, c.char_count.ensures.bound, c.as_str.type_inv.1, c.loop-file.invariant.0) in
    (small, ap (λ (n : ℕ). fold max n (map name_length (map analysis_view (drop (i + 1) files)))) now ∙ sym here ∙ c.loop-file.invariant.1)

pub overflow_add-result : goal.overflow_add-result
overflow_add-result c = omega (arith, c.loop-file.invariant.0)

pub returns : goal.returns
returns c =
    let greatest : List Analysis → ℕ = λ xs. fold max c.loop-file.longest (map name_length (map analysis_view xs)) in
    ap (λ (n : ℕ). n + 1) (sym (at_drop_all greatest c.args.files.now c.loop-file.file-index c.loop-file-test.false) ∙ c.loop-file.invariant.1)
