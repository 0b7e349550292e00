-- Lists of lines.
use Rattle.std.specs.Prelude.{◌≤◌, ℕ, nat_eq, Bool, not, List, All, filter}
use Rattle.std.specs.List.{list_any}
use Rattle.py_token.specs.OnLines.{AreOnLines}
use Rattle.py_token.specs.Plain.{PToken}
use Rattle.py_token.specs.Source.{most_lines}
use Rattle.py_syntax.specs.Spelling.{Spells}
use Rattle.py_syntax.specs.Tree.{Stmts}

-- whether a line is one of these
abbrev pub is_among : List ℕ → ℕ → Bool
is_among lines line = list_any (nat_eq line) lines

-- lines that a text may have
abbrev pub AreLines : List ℕ → Type 0
AreLines lines = All (λ line. line ≤ most_lines) lines

-- a module that is read from such a text: tokens that keep its lines spell the module
pub record IsOfText (m : Stmts) : Type 0 where
  pub tokens : List PToken
  pub on_lines : AreOnLines tokens
  pub spelled : Spells m tokens

-- the lines that are none of the others
abbrev pub without : List ℕ → List ℕ → List ℕ
without lines others = filter (λ line. not (is_among others line)) lines
