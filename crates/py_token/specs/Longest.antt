-- What words, numbers, operators and comments are by themselves, and that no place is cut shorter.
use Rattle.std.specs.Prelude.{◌≡◌, ℕ, ◌≤◌, true, List, [], ◌∷◌, length, take, Option, Some, None}
use Rattle.std.specs.List.{list_all}
use Rattle.std.specs.Char.{is_ascii_digit}
use Rattle.py_token.specs.declared.token.Mark.{Mark}
use Rattle.py_token.specs.Words.{begins_name, in_name}
use Rattle.py_token.specs.Numbers.{in_number}
use Rattle.py_token.specs.Marks.{mark_of_one, mark_of_two, mark_of_three}
use Rattle.py_token.specs.Segments.{Lexeme, spelled, blank, comment, line_end, joined_end, stuck, in_comment, segment_at}

-- the mark that a whole text spells
abbrev pub mark_of_text : ℕ → List ℕ → Option Mark
mark_of_text c [] = mark_of_one c
mark_of_text c (d ∷ []) = mark_of_two c d
mark_of_text c (d ∷ e ∷ []) = mark_of_three c d e
mark_of_text c (d ∷ e ∷ f ∷ cs) = None

-- what a segment is cut by
pub data Rule : Type 0 where
  word : Rule
  number : Rule
  operator : Rule
  note : Rule

-- a first character and others are of the rule
abbrev pub IsOf : Rule → ℕ → List ℕ → Type 0
IsOf word c cs = (begins_name c ≡ true) × (list_all in_name cs ≡ true)
IsOf number c cs = (is_ascii_digit c ≡ true) × (list_all in_number cs ≡ true)
IsOf operator c cs = (m : Mark) × (mark_of_text c cs ≡ Some m)
IsOf note c cs = (c ≡ 35) × (list_all in_comment cs ≡ true)

-- some rule takes the segment
abbrev pub IsMatch : Lexeme → Type 0
IsMatch (spelled kind) = Unit {0}
IsMatch (blank c) = Unit {0}
IsMatch comment = Unit {0}
IsMatch line_end = Unit {0}
IsMatch joined_end = Unit {0}
IsMatch (stuck e) = ⊥

-- where a segment is taken, none of these rules takes a longer one
abbrev pub NoneLonger : Type 0
NoneLonger =
    (r : Rule) (line c m : ℕ) (cs : List ℕ) → m ≤ length cs → IsOf r c (take m cs)
    → IsMatch (segment_at line c cs).lexeme → m ≤ (segment_at line c cs).after
