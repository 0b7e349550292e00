-- The lines of a module that a text spells (Python Language Reference, 2.1.2, "Physical lines").
--     IsLine                           a line that a text has
--     LinesLaw                         a module's statement lines are such lines
use Rattle.std.specs.Prelude.{ℕ, ◌≤◌, List, All}
use Rattle.py_token.specs.OnLines.{AreOnLines}
use Rattle.py_token.specs.Plain.{PToken}
use Rattle.py_token.specs.Source.{most_lines}
use Rattle.py_syntax.specs.Marks.{statement_lines}
use Rattle.py_syntax.specs.Spelling.{Spells}
use Rattle.py_syntax.specs.Tree.{Stmts}

-- lines are from 1 on, and a text has at most `most_lines` of them
abbrev pub IsLine : ℕ → Type 0
IsLine l = (1 ≤ l) × (l ≤ most_lines)

-- where tokens keep the lines of a text, so does the module that they spell
abbrev pub LinesLaw : Type 0
LinesLaw =
    (m : Stmts) (ts : List PToken) → AreOnLines ts → Spells m ts → All IsLine (statement_lines m)
