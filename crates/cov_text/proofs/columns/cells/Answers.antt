use Rattle.std.proofs.Common.{◌≡◌, ◌++◌, ℕ, List, IfOk, string_bytes, codes, decimal, subst, ap, ◌∙◌}
use Rattle.std.specs.Fmt.{styled_decimal}
use Rattle.cov_text.specs.Report.{right}
use Rattle.cov_analysis.specs.Percentage.{percent}
use Rattle.cov_text.proofs.Cells.{number_right, percent_right, cells_of_arcs, cells_of_lines}
use Rattle.cov_text.proofs.columns.cells.Goals as goal

pub returns-then-arcs : goal.returns-then-arcs
returns-then-arcs c =
    let n = c.args.numbers in
    let p = c.percent-percent.result in
    let percent-is : p ≡ percent n = c.percent-percent.ensures.is in
    let same =
    cells_of_arcs c.args.arcs n (styled_decimal c.laid_out.result n.statements) (styled_decimal c.laid_out-then-arcs.result n.missing) (styled_decimal c.laid_out-then-arcs-2.result n.branches) (styled_decimal c.laid_out-then-arcs-3.result n.partial) (styled_decimal c.laid_out-then-arcs-4.result p)
    c.if-arcs.true
    (ap (λ s. styled_decimal s n.statements) c.laid_out.ensures ∙ number_right n.statements)
    (ap (λ s. styled_decimal s n.missing) c.laid_out-then-arcs.ensures ∙ number_right n.missing)
    (ap (λ s. styled_decimal s n.branches) c.laid_out-then-arcs-2.ensures ∙ number_right n.branches)
    (ap (λ s. styled_decimal s n.partial) c.laid_out-then-arcs-3.ensures ∙ number_right n.partial)
    (ap (λ s. styled_decimal s p ++ codes "%") c.laid_out-then-arcs-4.ensures ∙ percent_right p ∙ ap (λ (k : ℕ). right (decimal k ++ codes "%")) percent-is)
    in
    subst (λ (v : List ℕ). IfOk c.format.result (λ t. string_bytes t ≡ v)) same c.format.ensures.ok

pub returns : goal.returns
returns c =
    let n = c.args.numbers in
    let p = c.percent-percent.result in
    let percent-is : p ≡ percent n = c.percent-percent.ensures.is in
    let same =
    cells_of_lines c.args.arcs n (styled_decimal c.laid_out-2.result n.statements) (styled_decimal c.laid_out-3.result n.missing) (styled_decimal c.laid_out-4.result p)
    c.if-arcs.false
    (ap (λ s. styled_decimal s n.statements) c.laid_out-2.ensures ∙ number_right n.statements)
    (ap (λ s. styled_decimal s n.missing) c.laid_out-3.ensures ∙ number_right n.missing)
    (ap (λ s. styled_decimal s p ++ codes "%") c.laid_out-4.ensures ∙ percent_right p ∙ ap (λ (k : ℕ). right (decimal k ++ codes "%")) percent-is)
    in
    subst (λ (v : List ℕ). IfOk c.format-2.result (λ t. string_bytes t ≡ v)) same c.format-2.ensures.ok
