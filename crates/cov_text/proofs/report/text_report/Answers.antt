use Rattle.std.proofs.Common.{◌≡◌, ℕ, List, IfOk, length, string_bytes, codes, subst, ap, ◌∙◌, rules}
use Rattle.std.specs.List.{repeat}
use Rattle.cov_text.specs.Report.{rule}
use Rattle.cov_text.proofs.Whole.{whole_is}
use Rattle.cov_text.proofs.report.text_report.Goals as goal

pub row-requires : goal.row-requires
row-requires c = c.total.ensures.counted c.requires

pub returns : goal.returns
returns c =
    let head = string_bytes c.in_ok-header.header in
    let places : c.len.result ≡ length head = search rules in
    let dashes : string_bytes c.in_ok-rule.rule ≡ rule head = c.in_ok-rule.ensures.bytes ∙ ap (λ (n : ℕ). repeat n (codes "-")) places in
    let same = whole_is c.args.files.now c.args.arcs c.args.missing c.name_width.result c.total.result head (string_bytes c.in_ok-rule.rule) (string_bytes c.in_ok-rows.rows) (string_bytes c.in_ok-total.total) c.name_width.ensures c.total.ensures.sums c.in_ok-header.ensures dashes c.in_ok-rows.ensures c.in_ok-total.ensures in
    subst (λ (v : List ℕ). IfOk c.format.result (λ t. string_bytes t ≡ v)) same c.format.ensures.ok
