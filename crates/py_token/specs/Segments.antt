-- The segments that a text is cut into.
use Rattle.std.specs.Prelude.{ℕ, zero, suc, ◌+◌, Bool, ◌||◌, ◌&&◌, ◌==◌, not, List, [], ◌∷◌, Result, Ok, Err, if◌then◌else◌}
use Rattle.std.specs.List.{prefix_len}
use Rattle.py_token.specs.declared.error.TokenError.{TokenError}
use Rattle.py_token.specs.Source.{begins}
use Rattle.py_token.specs.Plain.{PKind}
use Rattle.py_token.specs.Rules.{Match}
use Rattle.py_token.specs.Fields.{is_blank, token_at}

-- a segment: a token, what stands between tokens, or the fault of a place where no rule takes
-- anything
pub data Lexeme : Type 0 where
  spelled : (kind : PKind) → Lexeme
  blank : (c : ℕ) → Lexeme
  comment : Lexeme
  line_end : Lexeme
  joined_end : Lexeme
  stuck : (error : TokenError) → Lexeme

-- a segment, how many of its characters stand after the first, and the line after it
pub record Segment : Type 0 where
  pub lexeme : Lexeme
  pub after : ℕ
  pub next : ℕ

-- a comment runs to the line's end
abbrev pub in_comment : ℕ → Bool
in_comment c = not ((c == 10) || (c == 13))

-- a token that stands here, or the fault of the place
abbrev pub token_segment : ℕ → Result Match TokenError → Segment
token_segment line (Ok t) = record { lexeme = spelled t.kind; after = t.after; next = t.next }
token_segment line (Err e) = record { lexeme = stuck e; after = 0; next = line }

-- the longest segment at the front that a rule takes
unfoldable pub segment_at : ℕ → ℕ → List ℕ → Segment
segment_at line c cs =
    if is_blank c then record { lexeme = blank c; after = 0; next = line }
    else (if c == 10 then record { lexeme = line_end; after = 0; next = line + 1 }
    else (if c == 35 then record { lexeme = comment; after = prefix_len in_comment cs; next = line }
    else (if (c == 92) && begins 10 cs
    then record { lexeme = joined_end; after = 1; next = line + 1 }
    else token_segment line (token_at line c cs))))

-- a segment with the line where it begins and the line after it
pub record Place : Type 0 where
  pub lexeme : Lexeme
  pub line : ℕ
  pub next : ℕ

-- The segments of a text from a line on. The first characters are passed over.
unfoldable pub segments : ℕ → ℕ → List ℕ → List Place
segments skip line [] = []
segments (suc skip) line (c ∷ cs) = segments skip line cs
segments zero line (c ∷ cs) =
    record {
      lexeme = (segment_at line c cs).lexeme;
      line = line;
      next = (segment_at line c cs).next;
    }
    ∷ segments (segment_at line c cs).after (segment_at line c cs).next cs
