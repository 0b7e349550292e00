-- Segments as the code holds them.
use Rattle.std.specs.Prelude.{ℕ, List, [], ◌∷◌, Result, Ok, Err}
use Rattle.py_token.specs.declared.error.TokenError.{TokenError}
use Rattle.py_token.specs.declared.error.TokenError.TheVariants.{BadCharacter}
use Rattle.py_token.specs.declared.segments.Lexeme as code_lexeme
use Rattle.py_token.specs.declared.segments.Lexeme.TheVariants as lexeme_
use Rattle.py_token.specs.declared.segments.Segment as code_segment
use Rattle.py_token.specs.Segments.{Lexeme, spelled, blank, comment, line_end, joined_end, stuck, Segment, token_segment, segment_at}
use Rattle.py_token.specs.Fields.{token_at}
use Rattle.py_token.specs.View.{view_kind}

-- what a segment is
abbrev pub view_lexeme : code_lexeme.Lexeme → Lexeme
view_lexeme (lexeme_.Spelled kind) = spelled (view_kind kind)
view_lexeme (lexeme_.Blank c) = blank c
view_lexeme lexeme_.Comment = comment
view_lexeme lexeme_.LineEnd = line_end
view_lexeme lexeme_.JoinedEnd = joined_end
view_lexeme (lexeme_.Stuck error) = stuck error

-- a segment
abbrev pub view_segment : code_segment.Segment → Segment
view_segment c = record { lexeme = view_lexeme c.lexeme; after = c.after; next = c.next }

-- the token at the front
abbrev pub token_segment_of : ℕ → List ℕ → Result Segment TokenError
token_segment_of line [] = Err (BadCharacter line)
token_segment_of line (c ∷ cs) = Ok (token_segment line (token_at line c cs))

-- the longest segment at the front
abbrev pub segment_of : ℕ → List ℕ → Result Segment TokenError
segment_of line [] = Err (BadCharacter line)
segment_of line (c ∷ cs) = Ok (segment_at line c cs)
