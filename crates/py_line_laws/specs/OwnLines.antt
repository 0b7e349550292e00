-- No two `def`s of a text begin on one line (Python Language Reference, 8, "Compound statements":
-- what stands on the line of a header has no `def`).
--     NoneAt, HaveOwnLines     functions whose `def`s begin on lines of their own
--     OwnLinesLaw              those of a text do
use Rattle.std.specs.Prelude.{◌≢◌, ℕ, List, [], ◌∷◌}
use Rattle.py_token.specs.Plain.{PToken}
use Rattle.py_token.specs.Spelling as text
use Rattle.py_syntax.specs.Functions.{Function, functions}
use Rattle.py_syntax.specs.Spelling.{Spells}
use Rattle.py_syntax.specs.Tree.{Text, Stmts}

-- the `def` of none of these begins on the line
abbrev pub NoneAt : ℕ → List Function → Type 0
NoneAt l [] = Unit {0}
NoneAt l (f ∷ fs) = (f.line ≢ l) × NoneAt l fs

-- no two `def`s begin on one line
abbrev pub HaveOwnLines : List Function → Type 0
HaveOwnLines [] = Unit {0}
HaveOwnLines (f ∷ fs) = NoneAt f.line fs × HaveOwnLines fs

-- where a text spells tokens, and these spell a module, the `def`s of it have lines of their own
abbrev pub OwnLinesLaw : Type 0
OwnLinesLaw =
    (source : Text) (ts : List PToken) (m : Stmts) → text.Spells source ts → Spells m ts
    → HaveOwnLines (functions m)
