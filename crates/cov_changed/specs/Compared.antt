-- Two texts in pieces, compared piece by piece. At the first difference in a part its marks change
-- in both, and what follows the part is compared again.
--     same_word, same_words         words that are the same, and rows of them
--     depth_after                   how many parts are open after a piece
--     skipped                       pieces up to the end of open parts: their marks, and the rest
--     is_aside, past_asides         pieces that aren't compared
--     is_alike                      pieces that are the same
--     State, turn, compared         the comparison, a piece of the old text at a time
use Rattle.std.specs.Prelude.{ℕ, zero, suc, nat_eq, Bool, true, false, ◌&&◌, if◌then◌else◌, List, [], ◌∷◌, ◌++◌}
use Rattle.py_text.specs.Comparison.{is_same_text}
use Rattle.py_changes.specs.Same.{same_int}
use Rattle.py_changes.specs.Changed.{Lines, also, fits_stmts}
use Rattle.cov_pieces.specs.Words.{Word, a_number, an_int, a_text, assigned, a_row}
use Rattle.cov_pieces.specs.Pieces.{Piece, word, open_part, inside, close, mark, declared, defined, mark_of}

-- Two words are the same. Of rows of statements: what marks nothing in the old one is the same.
abbrev pub same_word : Word → Word → Bool
same_word (a_number m) (a_number n) = nat_eq m n
same_word (an_int m) (an_int n) = same_int m n
same_word (a_text x) (a_text y) = is_same_text x y
same_word (assigned x) (assigned y) = is_same_text x y
same_word (a_row b) (a_row d) = fits_stmts b d
same_word v w = false

-- two rows of words, word by word
abbrev pub same_words : List Word → List Word → Bool
same_words [] [] = true
same_words (v ∷ vs) (w ∷ ws) = same_word v w && same_words vs ws
same_words vs ws = false

-- how many parts are open after a piece, where some are in front of it
abbrev pub depth_after : ℕ → Piece → ℕ
depth_after d (word w) = d
depth_after d open_part = suc d
depth_after d inside = d
depth_after zero close = zero
depth_after (suc d) close = d
depth_after d (mark l) = d
depth_after d (declared x) = d
depth_after d (defined f) = d

-- marks in front of others
abbrev pub marked : List ℕ → List ℕ × List Piece → List ℕ × List Piece
marked ls r = (ls ++ r.0, r.1)

-- pieces up to the end of so many open parts: their marks, and the rest
abbrev pub skipped : ℕ → List Piece → List ℕ × List Piece
skipped zero ps = ([], ps)
skipped (suc d) [] = ([], [])
skipped (suc d) (p ∷ ps) = marked (mark_of p) (skipped (depth_after (suc d) p) ps)

-- pieces that aren't compared
abbrev pub is_aside : Piece → Bool
is_aside (word w) = false
is_aside open_part = false
is_aside inside = false
is_aside close = false
is_aside (mark l) = true
is_aside (declared x) = true
is_aside (defined f) = true

-- pieces from the first that is compared
abbrev pub past_asides : List Piece → List Piece
past_asides [] = []
past_asides (p ∷ ps) = if is_aside p then past_asides ps else p ∷ ps

-- pieces that are the same
abbrev pub is_alike : Piece → Piece → Bool
is_alike (word v) (word w) = same_word v w
is_alike open_part open_part = true
is_alike inside inside = true
is_alike close close = true
is_alike p q = false

-- how many parts of the old text are left out, what changed, and what is left of the new text
pub record State : Type 0 where
  pub depth : ℕ
  pub lines : Lines
  pub rest : List Piece

-- nothing is different
abbrev pub going_on : List Piece → State
going_on rest = record { depth = zero; lines = ([], []); rest = rest }

-- the part of a piece is different: what is left of it is left out in both
abbrev pub leaving_out : Piece → List ℕ × List Piece → State
leaving_out p r = record { depth = depth_after 1 p; lines = (mark_of p, r.0); rest = r.1 }

-- a piece that is compared, and the new text from the next one that is
abbrev pub meets : Piece → List Piece → State
meets p [] = leaving_out p (skipped 1 [])
meets p (q ∷ qs) = if is_alike p q then going_on qs else leaving_out p (skipped 1 (q ∷ qs))

-- what follows of a piece of the old text
abbrev pub turn : ℕ → Piece → List Piece → State
turn zero p qs = if is_aside p then going_on qs else meets p (past_asides qs)
turn (suc d) p qs = record { depth = depth_after (suc d) p; lines = (mark_of p, []); rest = qs }

-- the changed lines, where so many parts of the old text are left out
abbrev pub compared : ℕ → List Piece → List Piece → Lines
compared d [] qs = ([], [])
compared d (p ∷ ps) qs =
    also (turn d p qs).lines (compared (turn d p qs).depth ps (turn d p qs).rest)
