-- Operators and delimiters (The Python Language Reference, "Operators" and "Delimiters"), the
-- longest first.
use Rattle.std.specs.Prelude.{ℕ, ◌&&◌, ◌==◌, List, [], ◌∷◌, Option, Some, None, if◌then◌else◌}
use Rattle.py_token.specs.declared.token.Mark.{Mark}
use Rattle.py_token.specs.declared.token.Mark.TheVariants as marks

-- the mark that three characters spell
abbrev pub mark_of_three : ℕ → ℕ → ℕ → Option Mark
mark_of_three c d e =
    if (c == 47) && (d == 47) && (e == 61) then Some marks.DoubleSlashEqual else None

-- a character with an equals sign after it
abbrev pub mark_with_equal : ℕ → Option Mark
mark_with_equal c =
    if c == 61 then Some marks.EqualEqual
    else (if c == 33 then Some marks.NotEqual
    else (if c == 60 then Some marks.LessEqual
    else (if c == 62 then Some marks.GreaterEqual
    else (if c == 43 then Some marks.PlusEqual
    else (if c == 45 then Some marks.MinusEqual
    else (if c == 42 then Some marks.StarEqual
    else (if c == 37 then Some marks.PercentEqual
    else None)))))))

-- the mark that two characters spell
abbrev pub mark_of_two : ℕ → ℕ → Option Mark
mark_of_two c d =
    if d == 61 then mark_with_equal c
    else (if (c == 47) && (d == 47) then Some marks.DoubleSlash else None)

-- the mark that a character spells
abbrev pub mark_of_one : ℕ → Option Mark
mark_of_one c =
    if c == 43 then Some marks.Plus
    else (if c == 45 then Some marks.Minus
    else (if c == 42 then Some marks.Star
    else (if c == 37 then Some marks.Percent
    else (if c == 60 then Some marks.Less
    else (if c == 62 then Some marks.Greater
    else (if c == 61 then Some marks.Equal
    else (if c == 40 then Some marks.LeftParen
    else (if c == 41 then Some marks.RightParen
    else (if c == 91 then Some marks.LeftBracket
    else (if c == 93 then Some marks.RightBracket
    else (if c == 123 then Some marks.LeftBrace
    else (if c == 125 then Some marks.RightBrace
    else (if c == 44 then Some marks.Comma
    else (if c == 58 then Some marks.Colon
    else (if c == 46 then Some marks.Dot
    else (if c == 59 then Some marks.Semicolon
    else (if c == 124 then Some marks.Bar
    else None)))))))))))))))))

-- a mark, and how many of its characters stand after the first
abbrev pub sized : ℕ → Option Mark → Option (Mark × ℕ)
sized n None = None
sized n (Some m) = Some (m, n)

-- the first of two, where it is there
abbrev pub else_try : Option (Mark × ℕ) → Option (Mark × ℕ) → Option (Mark × ℕ)
else_try None other = other
else_try (Some m) other = Some m

-- the longest mark at the front
unfoldable pub mark_at : ℕ → List ℕ → Option (Mark × ℕ)
mark_at c [] = sized 0 (mark_of_one c)
mark_at c (d ∷ []) = else_try (sized 1 (mark_of_two c d)) (sized 0 (mark_of_one c))
mark_at c (d ∷ e ∷ cs) =
    else_try (sized 2 (mark_of_three c d e))
    (else_try (sized 1 (mark_of_two c d)) (sized 0 (mark_of_one c)))
