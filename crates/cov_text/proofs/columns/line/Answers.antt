use Rattle.std.proofs.Common.{◌≡◌, ◌-◌, ℕ, List, IfOk, string_bytes, codes, length, subst, ap, ◌∙◌, arith}
use Rattle.std.specs.Str.{chars}
use Rattle.std.specs.List.{repeat}
use Rattle.std.proofs.lemmas.Bool.Decides.{nat_tests}
use Rattle.std.proofs.lemmas.List.{nil_from_length}
use Rattle.cov_text.proofs.Cells.{line_plain}
use Rattle.cov_text.proofs.columns.line.Goals as goal

pub returns-then-is_empty : goal.returns-then-is_empty
returns-then-is_empty c =
    let empty : length c.args.note.now ≡ 0 = grind (arith, nat_tests) in
    let places : c.saturating_sub.result ≡ c.args.width - length (chars c.args.name.now) = c.saturating_sub.ensures ∙ ap (λ (n : ℕ). c.args.width - n) c.char_count.ensures.count in
    let blanks : string_bytes c.in_ok-blanks.blanks ≡ repeat (c.args.width - length (chars c.args.name.now)) (codes " ") = c.in_ok-blanks.ensures.bytes ∙ ap (λ (n : ℕ). repeat n (codes " ")) places in
    let same = line_plain c.args.width c.args.name.now (string_bytes c.in_ok-blanks.blanks) c.args.cells.now c.args.note.now (nil_from_length c.args.note.now empty) blanks in
    subst (λ (v : List ℕ). IfOk c.format.result (λ t. string_bytes t ≡ v)) same c.format.ensures.ok
