-- From segments to tokens: logical lines, brackets and indentation (The Python Language Reference,
-- "Line structure").
--     State, outermost                    where the reading of a text stands, and where it begins
--     current, dedents .. line_begins     the indentation before the first token of a line
--     changed, spelled_at                 a token, and the brackets that are open
--     line_ends                           the end of a line
--     put                                 one segment
--     closing_tokens, ends                the end of a text
--     layout                              the tokens of all segments
use Rattle.std.specs.Prelude.{ℕ, zero, suc, Bool, true, false, ◌||◌, ◌&&◌, not, nat_eq, List, [], ◌∷◌, ◌++◌, length, Result, Ok, Err, if◌then◌else◌}
use Rattle.std.specs.List.{starts_with}
use Rattle.py_token.specs.declared.error.TokenError.{TokenError}
use Rattle.py_token.specs.declared.error.TokenError.TheVariants.{BadIndent, OpenBracket}
use Rattle.py_token.specs.Plain.{PKind, newline, indent, dedent, end, PToken, token}
use Rattle.py_token.specs.Words.{same_text}
use Rattle.py_token.specs.Numbers.{is_empty}
use Rattle.py_token.specs.Strings.{◌>>=◌}
use Rattle.py_token.specs.Fields.{BracketChange, opening, shutting, neither, change_of}
use Rattle.py_token.specs.Segments.{Lexeme, spelled, blank, comment, line_end, joined_end, stuck, Place}

-- Where the reading of a text stands: the indentations that are open, the innermost first; the
-- lines of the open brackets, the last one first; whether the logical line has a token; the blanks
-- before its first one; and whether a backslash has ended them.
pub record State : Type 0 where
  pub indents : List (List ℕ)
  pub brackets : List ℕ
  pub begun : Bool
  pub blanks : List ℕ
  pub settled : Bool

-- at the start of a text
abbrev pub outermost : State
outermost = record { indents = []; brackets = []; begun = false; blanks = []; settled = false }

-- the innermost indentation; the first one is empty
abbrev pub current : List (List ℕ) → List ℕ
current [] = []
current (i ∷ is) = i

-- one `Dedent` for each indentation that is left, down to an equal one
abbrev pub dedents : List ℕ → ℕ → List (List ℕ) → Result (List PToken × List (List ℕ)) TokenError
dedents blanks line [] = if is_empty blanks then Ok ([], []) else Err (BadIndent line)
dedents blanks line (i ∷ is) =
    if same_text i blanks then Ok ([], i ∷ is)
    else (dedents blanks line is >>= λ x. Ok (token dedent line line ∷ x.0, x.1))

-- whether the first text is a proper prefix of the second
abbrev pub is_within : List ℕ → List ℕ → Bool
is_within i blanks = starts_with nat_eq blanks i && not (same_text i blanks)

-- the block tokens before a line of that indentation, and the indentations that are open then
abbrev pub block_tokens : List ℕ → ℕ → List (List ℕ)
    → Result (List PToken × List (List ℕ)) TokenError
block_tokens blanks line is =
    if is_within (current is) blanks then Ok (token indent line line ∷ [], blanks ∷ is)
    else dedents blanks line is

-- an indentation is judged before the first token of its line
abbrev pub line_begins : State → ℕ → Result (List PToken × State) TokenError
line_begins s line =
    if s.begun then Ok ([], s)
    else (block_tokens s.blanks line s.indents
    >>= λ x. Ok (x.0, record s { indents = x.1; begun = true }))

-- without the last opened bracket
abbrev pub pops : List ℕ → List ℕ
pops [] = []
pops (line ∷ lines) = lines

-- the open brackets after a token
abbrev pub changed : BracketChange → ℕ → List ℕ → List ℕ
changed opening line lines = line ∷ lines
changed shutting line lines = pops lines
changed neither line lines = lines

-- a `Newline`, where the line has a token
abbrev pub newline_if : Bool → ℕ → List PToken
newline_if true line = token newline line line ∷ []
newline_if false line = []

-- a token, after what its line begins with
abbrev pub spelled_at : State → PKind → ℕ → ℕ → Result (List PToken × State) TokenError
spelled_at s kind line next =
    line_begins s line
    >>= λ x. Ok (
      x.0 ++ token kind line next ∷ [],
      record x.1 { brackets = changed (change_of kind) line x.1.brackets },
    )

-- lines are joined inside brackets
abbrev pub line_ends : State → ℕ → Result (List PToken × State) TokenError
line_ends s line =
    if is_empty s.brackets
    then Ok (newline_if s.begun line, record s { begun = false; blanks = []; settled = false })
    else Ok ([], s)

-- what a segment gives, and the state after it
unfoldable pub put : State → Lexeme → ℕ → ℕ → Result (List PToken × State) TokenError
put s (spelled kind) line next = spelled_at s kind line next
put s (blank c) line next =
    Ok ([], if s.begun || s.settled then s else record s { blanks = s.blanks ++ c ∷ [] })
put s comment line next = Ok ([], s)
put s joined_end line next = Ok ([], record s { settled = true })
put s line_end line next = line_ends s line
put s (stuck error) line next = line_begins s line >>= λ x. Err error

-- the dedents that are open at the end of a text, and its end
abbrev pub closing_tokens : ℕ → ℕ → List PToken
closing_tokens line zero = token end line line ∷ []
closing_tokens line (suc count) = token dedent line line ∷ closing_tokens line count

-- the tokens at the end of a text whose last line is that one
abbrev pub ends_with : List ℕ → State → ℕ → Result (List PToken) TokenError
ends_with [] s last = Ok (newline_if s.begun last ++ closing_tokens last (length s.indents))
ends_with (line ∷ lines) s last = Err (OpenBracket line)

-- the same from a state
abbrev pub ends : State → ℕ → Result (List PToken) TokenError
ends s last = ends_with s.brackets s last

-- the tokens of segments, from a state on
unfoldable pub layout : State → ℕ → List Place → Result (List PToken) TokenError
layout s last [] = ends s last
layout s last (p ∷ ps) =
    put s p.lexeme p.line p.next
    >>= λ here. layout here.1 last ps >>= λ more. Ok (here.0 ++ more)
