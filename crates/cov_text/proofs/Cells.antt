-- Cells on the right of their places, and a name on the left.
use Rattle.std.proofs.Common.{◌≡◌, ◌++◌, ◌-◌, ℕ, List, [], length, ap, sym, ◌∙◌, append-nil, append_assoc, codes, Bool, true, false, decimal, arith}
use Rattle.std.proofs.lemmas.List.{length-append}
use Rattle.std.specs.Fmt.{padded_integral, char_count, format_spec, styled_decimal}
use Rattle.std.specs.List.{repeat}
use lib.Utf8.{encode}
use Rattle.std.specs.Str.{chars}
use Rattle.cov_analysis.specs.declared.numbers.Numbers.{Numbers}
use Rattle.cov_analysis.specs.Percentage.{percent}
use Rattle.cov_text.specs.Report.{right, cells, line}

padded_right : (w : ℕ) (numeral : List ℕ) → padded_integral (format_spec 32 3 0 w 18446744073709551615) false [] numeral ≡ repeat (w - length numeral) (codes " ") ++ numeral
unfolding padded_integral char_count encode
padded_right w numeral =
    let same : w - length numeral - 0 - 0 ≡ w - length numeral = omega arith in
    let none : (w - length numeral) - (w - length numeral) ≡ 0 = omega arith in
    simp (same, none, append-nil)

pub number_right : (n : ℕ) → styled_decimal (format_spec 32 3 0 7 18446744073709551615) n ≡ right (decimal n)
number_right n = padded_right 7 (decimal n)

-- a percentage in 6 places, and its sign
pub percent_right : (n : ℕ) → styled_decimal (format_spec 32 3 0 6 18446744073709551615) n ++ codes "%" ≡ right (decimal n ++ codes "%")
percent_right n =
    let shorter : 6 - length (decimal n) ≡ 7 - length (decimal n ++ codes "%") = omega (arith, length-append (decimal n) (codes "%")) in
    ap (λ (t : List ℕ). t ++ codes "%") (padded_right 6 (decimal n))
    ∙ append_assoc (repeat (6 - length (decimal n)) (codes " ")) (decimal n) (codes "%")
    ∙ ap (λ (k : ℕ). repeat k (codes " ") ++ (decimal n ++ codes "%")) shorter

-- a line without a note
pub line_plain : (width : ℕ) (name between cells note : List ℕ) → note ≡ [] → between ≡ repeat (width - length (chars name)) (codes " ") → name ++ (between ++ cells) ≡ line width name cells note
line_plain width name between cells note none is =
    ap (λ (b : List ℕ). name ++ (b ++ cells)) is
    ∙ ap (λ (t : List ℕ). name ++ (repeat (width - length (chars name)) (codes " ") ++ t)) (sym (append-nil cells))
    ∙ ap (line width name cells) (sym none)

pub cells_of_arcs : (arcs : Bool) (n : Numbers) (a b c d e : List ℕ) → arcs ≡ true → a ≡ right (decimal n.statements) → b ≡ right (decimal n.missing) → c ≡ right (decimal n.branches) → d ≡ right (decimal n.partial) → e ++ codes "%" ≡ right (decimal (percent n) ++ codes "%") → a ++ (b ++ (c ++ (d ++ (e ++ codes "%")))) ≡ cells arcs n
cells_of_arcs arcs n a b c d e of_arcs a-is b-is c-is d-is e-is =
    let rest : e ++ codes "%" ≡ right (decimal (percent n) ++ codes "%") ++ [] = e-is ∙ sym (append-nil (right (decimal (percent n) ++ codes "%"))) in
    let joined : a ++ (b ++ (c ++ (d ++ (e ++ codes "%")))) ≡ cells true n = rw (a-is, b-is, c-is, d-is, rest) in
    joined ∙ ap (λ (t : Bool). cells t n) (sym of_arcs)

pub cells_of_lines : (arcs : Bool) (n : Numbers) (a b e : List ℕ) → arcs ≡ false → a ≡ right (decimal n.statements) → b ≡ right (decimal n.missing) → e ++ codes "%" ≡ right (decimal (percent n) ++ codes "%") → a ++ (b ++ (e ++ codes "%")) ≡ cells arcs n
cells_of_lines arcs n a b e of_lines a-is b-is e-is =
    let rest : e ++ codes "%" ≡ right (decimal (percent n) ++ codes "%") ++ [] = e-is ∙ sym (append-nil (right (decimal (percent n) ++ codes "%"))) in
    let joined : a ++ (b ++ (e ++ codes "%")) ≡ cells false n = rw (a-is, b-is, rest) in
    joined ∙ ap (λ (t : Bool). cells t n) (sym of_lines)
