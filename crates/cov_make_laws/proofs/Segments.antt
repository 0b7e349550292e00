-- The segments that a source is cut into.
use Rattle.std.proofs.Common.{◌≡◌, ℕ, ◌+◌, ◌<◌, List, [], ◌∷◌, ◌++◌, refl}
use Rattle.std.specs.Prelude.{codes, pos}
use Rattle.py_token.specs.declared.token.Keyword.TheVariants as word
use Rattle.py_token.specs.declared.token.Mark.{Mark}
use Rattle.py_token.specs.declared.token.Mark.TheVariants as sign
use Rattle.py_token.specs.Plain as kind
use Rattle.py_token.specs.Plain.{PKind}
use Rattle.py_token.specs.Segments.{Lexeme, spelled, blank, line_end, Place, segments}
use Rattle.py_token.specs.Source.{joined_ends}
use Rattle.cov_make_laws.specs.Trees.{Form, If, For, Try, While, i_name, range_name, print_name, zero_division, line_after}
use Rattle.cov_make_laws.specs.Tokens.{t_token}
use Rattle.cov_make_laws.proofs.Draws.{text, each_digit}
use Rattle.cov_make_laws.proofs.Unfolds.{cuts}

-- a space
abbrev pub gap : Lexeme
gap = blank 32

-- a keyword, a mark and a number
abbrev pub mark_of : Mark → Lexeme
mark_of m = spelled (kind.mark m)

abbrev pub number_of : ℕ → Lexeme
number_of n = spelled (kind.int (pos n))

abbrev pub t_lexeme : Lexeme
t_lexeme = spelled t_token

-- a line of these segments, with its end, and then others
abbrev pub line_at : ℕ → List Lexeme → List Place → List Place
line_at l [] more = record { lexeme = line_end; line = l; next = l + 1 } ∷ more
line_at l (x ∷ xs) more = record { lexeme = x; line = l; next = l } ∷ line_at l xs more

-- `t = t op k`, indented
abbrev pub update_line : ℕ → Mark → Lexeme → List Place → List Place
update_line l op k more =
    line_at l (gap ∷ gap ∷ gap ∷ gap ∷ t_lexeme ∷ gap ∷ mark_of sign.Equal ∷ gap ∷ t_lexeme ∷ gap
    ∷ mark_of op ∷ gap ∷ k ∷ []) more

-- a block with the number v that begins on a line
abbrev pub places : Form → ℕ → ℕ → List Place
places If v l =
    line_at l (spelled (kind.keyword word.If) ∷ gap ∷ t_lexeme ∷ gap ∷ mark_of sign.Percent ∷ gap
    ∷ number_of 3 ∷ gap ∷ mark_of sign.EqualEqual ∷ gap ∷ number_of v ∷ mark_of sign.Colon ∷ [])
    (update_line (l + 1) sign.Plus (number_of 1)
    (line_at (l + 1 + 1) (spelled (kind.keyword word.Else) ∷ mark_of sign.Colon ∷ [])
    (update_line (l + 1 + 1 + 1) sign.Plus (number_of 2) [])))
places For v l =
    line_at l (spelled (kind.keyword word.For) ∷ gap ∷ spelled (kind.name i_name) ∷ gap
    ∷ spelled (kind.keyword word.In) ∷ gap ∷ spelled (kind.name range_name)
    ∷ mark_of sign.LeftParen ∷ number_of v ∷ mark_of sign.RightParen ∷ mark_of sign.Colon ∷ [])
    (update_line (l + 1) sign.Plus (spelled (kind.name i_name)) [])
places Try v l =
    line_at l (spelled (kind.keyword word.Try) ∷ mark_of sign.Colon ∷ [])
    (update_line (l + 1) sign.DoubleSlash (number_of v)
    (line_at (l + 1 + 1) (spelled (kind.keyword word.Except) ∷ gap
    ∷ spelled (kind.name zero_division) ∷ mark_of sign.Colon ∷ [])
    (update_line (l + 1 + 1 + 1) sign.Plus (number_of 5) [])))
places While v l =
    line_at l (spelled (kind.keyword word.While) ∷ gap ∷ t_lexeme ∷ gap ∷ mark_of sign.Greater
    ∷ gap ∷ number_of v ∷ gap ∷ mark_of sign.Star ∷ gap ∷ number_of 10 ∷ mark_of sign.Colon ∷ [])
    (update_line (l + 1) sign.Minus (number_of 7) [])

-- the first line
abbrev pub first_places : ℕ → List Place
first_places l =
    line_at l (t_lexeme ∷ gap ∷ mark_of sign.Equal ∷ gap ∷ number_of 0 ∷ []) []

-- the last line
abbrev pub last_places : ℕ → List Place
last_places l =
    line_at l (spelled (kind.name print_name) ∷ mark_of sign.LeftParen ∷ t_lexeme
    ∷ mark_of sign.RightParen ∷ []) []

-- ---- a text is cut into them

-- a block at the front of a text
abbrev IsCut : Form → ℕ → Type 0
IsCut f v =
    (l : ℕ) (rest : List ℕ)
    → segments 0 l (text f (48 + v) ++ rest) ≡ places f v l ++ segments 0 (line_after f l) rest

pub cut : (f : Form) (v : ℕ) → v < 7 → IsCut f v
unfolding cuts
cut If v h =
    each_digit (IsCut If) (λ l rest. refl) (λ l rest. refl) (λ l rest. refl) (λ l rest. refl)
    (λ l rest. refl) (λ l rest. refl) (λ l rest. refl) v h
cut For v h =
    each_digit (IsCut For) (λ l rest. refl) (λ l rest. refl) (λ l rest. refl) (λ l rest. refl)
    (λ l rest. refl) (λ l rest. refl) (λ l rest. refl) v h
cut Try v h =
    each_digit (IsCut Try) (λ l rest. refl) (λ l rest. refl) (λ l rest. refl) (λ l rest. refl)
    (λ l rest. refl) (λ l rest. refl) (λ l rest. refl) v h
cut While v h =
    each_digit (IsCut While) (λ l rest. refl) (λ l rest. refl) (λ l rest. refl) (λ l rest. refl)
    (λ l rest. refl) (λ l rest. refl) (λ l rest. refl) v h

pub cut_first : (l : ℕ) (rest : List ℕ)
    → segments 0 l (codes "t = 0\n" ++ rest) ≡ first_places l ++ segments 0 (l + 1) rest
unfolding cuts
cut_first l rest = refl

pub cut_last : (l : ℕ) → segments 0 l (codes "print(t)\n") ≡ last_places l ++ []
unfolding cuts
cut_last l = refl

-- ---- no carriage return stands in a block

abbrev IsJoined : Form → ℕ → Type 0
IsJoined f v =
    (rest : List ℕ)
    → joined_ends (text f (48 + v) ++ rest) ≡ text f (48 + v) ++ joined_ends rest

pub joins : (f : Form) (v : ℕ) → v < 7 → IsJoined f v
unfolding joined_ends
joins If v h =
    each_digit (IsJoined If) (λ rest. refl) (λ rest. refl) (λ rest. refl) (λ rest. refl)
    (λ rest. refl) (λ rest. refl) (λ rest. refl) v h
joins For v h =
    each_digit (IsJoined For) (λ rest. refl) (λ rest. refl) (λ rest. refl) (λ rest. refl)
    (λ rest. refl) (λ rest. refl) (λ rest. refl) v h
joins Try v h =
    each_digit (IsJoined Try) (λ rest. refl) (λ rest. refl) (λ rest. refl) (λ rest. refl)
    (λ rest. refl) (λ rest. refl) (λ rest. refl) v h
joins While v h =
    each_digit (IsJoined While) (λ rest. refl) (λ rest. refl) (λ rest. refl) (λ rest. refl)
    (λ rest. refl) (λ rest. refl) (λ rest. refl) v h
