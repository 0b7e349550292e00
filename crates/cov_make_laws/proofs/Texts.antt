-- A source spells its tokens.
use Rattle.std.proofs.Common.{◌≡◌, ℕ, zero, suc, ◌+◌, ◌*◌, ◌≤◌, List, [], ◌∷◌, ◌++◌, refl, arith, ap, sym, ◌∙◌, append_assoc, Ok}
use Rattle.std.specs.Prelude.{codes}
use Rattle.cov_make.specs.Source.{number_after, drawn, digit_of, blocks, source}
use Rattle.py_token.specs.Layout.{outermost, layout}
use Rattle.py_token.specs.Plain as kind
use Rattle.py_token.specs.Plain.{token}
use Rattle.py_token.specs.Segments.{segments}
use Rattle.py_token.specs.Source.{joined_ends, source_text, last_line, line_count}
use Rattle.py_token.specs.Spelling.{Spells, spelling}
use Rattle.cov_make_laws.specs.Trees.{form_drawn, number_drawn, line_after}
use Rattle.cov_make_laws.specs.Tokens.{tail_tokens, source_tokens}
use Rattle.cov_make_laws.proofs.Draws.{text, drawn_text, small}
use Rattle.cov_make_laws.proofs.Layouts.{opened, lay_top, lay_on, lay_first, lay_last_top, lay_last_on}
use Rattle.cov_make_laws.proofs.Lines.{line_of, few_lines}
use Rattle.cov_make_laws.proofs.Segments.{cut, cut_first, cut_last, joins}

-- the last line of a text
abbrev pub end_text : List ℕ
end_text = codes "print(t)\n"

-- the blocks that are left, one draw on
pub one_on : (s n : ℕ) (rest : List ℕ)
    → let q = drawn (number_after s) in
    blocks s (suc n) ++ rest
    ≡ text (form_drawn q) (48 + number_drawn q) ++ (blocks (number_after s) n ++ rest)
unfolding blocks
one_on s n rest =
    let q = drawn (number_after s) in
    ap (λ xs. (xs ++ blocks (number_after s) n) ++ rest) (drawn_text q (digit_of q))
    ∙ append_assoc (text (form_drawn q) (digit_of q)) (blocks (number_after s) n) rest

-- ---- the whole text is read

joined_all : (s n : ℕ) → joined_ends (blocks s n ++ end_text) ≡ blocks s n ++ end_text
unfolding blocks joined_ends
joined_all s zero = refl
joined_all s (suc n) =
    let q = drawn (number_after s) in
    ap joined_ends (one_on s n end_text)
    ∙ joins (form_drawn q) (number_drawn q) (small q) (blocks (number_after s) n ++ end_text)
    ∙ ap (λ xs. text (form_drawn q) (48 + number_drawn q) ++ xs) (joined_all (number_after s) n)
    ∙ sym (one_on s n end_text)

pub same_source : (seed size : ℕ) → source_text (source seed size) ≡ source seed size
unfolding joined_ends
same_source seed size = ap (λ cs. codes "t = 0\n" ++ cs) (joined_all seed size)

-- ---- tokens

-- after a block
tail_on : (last s l n : ℕ)
    → layout opened last (segments 0 l (blocks s n ++ end_text))
    ≡ Ok (token kind.dedent l l ∷ tail_tokens last s l n)
unfolding blocks tail_tokens
tail_on last s l zero = ap (layout opened last) (cut_last l) ∙ lay_last_on l last
tail_on last s l (suc n) =
    let q = drawn (number_after s) in
    ap (λ cs. layout opened last (segments 0 l cs)) (one_on s n end_text)
    ∙ ap (layout opened last)
    (cut (form_drawn q) (number_drawn q) (small q) l (blocks (number_after s) n ++ end_text))
    ∙ lay_on (form_drawn q) (number_drawn q) l last _ _
    (tail_on last (number_after s) (line_after (form_drawn q) l) n)

-- after the first line
tail_top : (last s l n : ℕ)
    → layout outermost last (segments 0 l (blocks s n ++ end_text))
    ≡ Ok (tail_tokens last s l n)
unfolding blocks tail_tokens
tail_top last s l zero = ap (layout outermost last) (cut_last l) ∙ lay_last_top l last
tail_top last s l (suc n) =
    let q = drawn (number_after s) in
    ap (λ cs. layout outermost last (segments 0 l cs)) (one_on s n end_text)
    ∙ ap (layout outermost last)
    (cut (form_drawn q) (number_drawn q) (small q) l (blocks (number_after s) n ++ end_text))
    ∙ lay_top (form_drawn q) (number_drawn q) l last _ _
    (tail_on last (number_after s) (line_after (form_drawn q) l) n)

pub spells : (seed size : ℕ)
    → Spells (source seed size) (source_tokens (last_line (source seed size)) seed size)
unfolding Spells spelling
spells seed size =
    let last = last_line (source seed size) in
    ap (λ cs. layout outermost (last_line cs) (segments 0 1 cs)) (same_source seed size)
    ∙ ap (layout outermost last) (cut_first 1 (blocks seed size ++ end_text))
    ∙ lay_first 1 last _ _ (tail_top last seed 2 size)

-- ---- lines

none_left : line_count [] ≡ 0
unfolding line_count
none_left = refl

count_all : (s n : ℕ) → line_count (blocks s n ++ end_text) ≤ 4 * n + 1
unfolding blocks
count_all s zero = omega (arith, line_of (codes "print(t)") [] refl, none_left)
count_all s (suc n) =
    let q = drawn (number_after s) in
    let rest = blocks (number_after s) n ++ end_text in
    let e : line_count (blocks s (suc n) ++ end_text)
    ≡ line_count (text (form_drawn q) (48 + number_drawn q) ++ rest) =
    ap line_count (one_on s n end_text) in
    omega (
      arith,
      e,
      few_lines (form_drawn q) (number_drawn q) (small q) rest,
      count_all (number_after s) n,
    )

pub source_lines : (seed size : ℕ) → line_count (source seed size) ≤ 4 * size + 2
source_lines seed size =
    omega (
      arith,
      line_of (codes "t = 0") (blocks seed size ++ end_text) refl,
      count_all seed size,
    )
