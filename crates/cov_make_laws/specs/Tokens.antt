-- The tokens of sources that are made up.
--     all_on                           tokens on one line
--     t_token, update_tokens           `t`, and `t = t op k` alone in its suite
--     block_tokens                     the tokens of a block
--     first_tokens, last_tokens        the tokens of the first line and of the last one
--     tail_tokens, source_tokens       all tokens
use Rattle.std.specs.Prelude.{ℕ, zero, suc, ◌+◌, List, [], ◌∷◌, pos}
use Rattle.cov_make.specs.Source.{number_after, drawn}
use Rattle.py_token.specs.declared.token.Keyword.TheVariants as word
use Rattle.py_token.specs.declared.token.Mark.{Mark}
use Rattle.py_token.specs.declared.token.Mark.TheVariants as sign
use Rattle.py_token.specs.Plain as kind
use Rattle.py_token.specs.Plain.{PKind, PToken, token}
use Rattle.cov_make_laws.specs.Trees.{Form, If, For, Try, While, t_name, i_name, range_name, print_name, zero_division, form_drawn, number_drawn, line_after}

-- tokens of these kinds on a line, and then others
abbrev pub all_on : ℕ → List PKind → List PToken → List PToken
all_on l [] more = more
all_on l (k ∷ ks) more = token k l l ∷ all_on l ks more

-- the name `t`
abbrev pub t_token : PKind
t_token = kind.name t_name

-- `t = t op k` as the first line of a suite
abbrev pub update_tokens : ℕ → Mark → PKind → List PToken → List PToken
update_tokens l op k more =
    all_on l (kind.indent ∷ t_token ∷ kind.mark sign.Equal ∷ t_token ∷ kind.mark op ∷ k
    ∷ kind.newline ∷ []) more

-- a block with the number v from a line on, without the `Dedent` of its last suite
abbrev pub block_tokens : Form → ℕ → ℕ → List PToken → List PToken
block_tokens If v l more =
    all_on l (kind.keyword word.If ∷ t_token ∷ kind.mark sign.Percent ∷ kind.int (pos 3)
    ∷ kind.mark sign.EqualEqual ∷ kind.int (pos v) ∷ kind.mark sign.Colon ∷ kind.newline ∷ [])
    (update_tokens (l + 1) sign.Plus (kind.int (pos 1))
    (all_on (l + 1 + 1) (kind.dedent ∷ kind.keyword word.Else ∷ kind.mark sign.Colon
    ∷ kind.newline ∷ [])
    (update_tokens (l + 1 + 1 + 1) sign.Plus (kind.int (pos 2)) more)))
block_tokens For v l more =
    all_on l (kind.keyword word.For ∷ kind.name i_name ∷ kind.keyword word.In
    ∷ kind.name range_name ∷ kind.mark sign.LeftParen ∷ kind.int (pos v)
    ∷ kind.mark sign.RightParen ∷ kind.mark sign.Colon ∷ kind.newline ∷ [])
    (update_tokens (l + 1) sign.Plus (kind.name i_name) more)
block_tokens Try v l more =
    all_on l (kind.keyword word.Try ∷ kind.mark sign.Colon ∷ kind.newline ∷ [])
    (update_tokens (l + 1) sign.DoubleSlash (kind.int (pos v))
    (all_on (l + 1 + 1) (kind.dedent ∷ kind.keyword word.Except ∷ kind.name zero_division
    ∷ kind.mark sign.Colon ∷ kind.newline ∷ [])
    (update_tokens (l + 1 + 1 + 1) sign.Plus (kind.int (pos 5)) more)))
block_tokens While v l more =
    all_on l (kind.keyword word.While ∷ t_token ∷ kind.mark sign.Greater ∷ kind.int (pos v)
    ∷ kind.mark sign.Star ∷ kind.int (pos 10) ∷ kind.mark sign.Colon ∷ kind.newline ∷ [])
    (update_tokens (l + 1) sign.Minus (kind.int (pos 7)) more)

-- `t = 0`
abbrev pub first_tokens : ℕ → List PToken → List PToken
first_tokens l more =
    all_on l (t_token ∷ kind.mark sign.Equal ∷ kind.int (pos 0) ∷ kind.newline ∷ []) more

-- `print(t)`
abbrev pub last_tokens : ℕ → List PToken → List PToken
last_tokens l more =
    all_on l (kind.name print_name ∷ kind.mark sign.LeftParen ∷ t_token
    ∷ kind.mark sign.RightParen ∷ kind.newline ∷ []) more

-- The tokens after the first line, from a line on, of so many draws, where s was the number before
-- them; the last line of the text is that one. The `Dedent` of a block stands on the line after it.
unfoldable pub tail_tokens : ℕ → ℕ → ℕ → ℕ → List PToken
tail_tokens last s l zero = last_tokens l (token kind.end last last ∷ [])
tail_tokens last s l (suc n) =
    let q = drawn (number_after s) in
    block_tokens (form_drawn q) (number_drawn q) l
    (token kind.dedent (line_after (form_drawn q) l) (line_after (form_drawn q) l)
    ∷ tail_tokens last (number_after s) (line_after (form_drawn q) l) n)

-- the tokens of the source of a seed and a size whose last line is that one
abbrev pub source_tokens : ℕ → ℕ → ℕ → List PToken
source_tokens last seed size = first_tokens 1 (tail_tokens last seed 2 size)
