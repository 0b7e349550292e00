-- What the laws ask of modules holds of those that texts spell.
use Rattle.std.specs.Prelude.{List, All}
use Rattle.py_syntax.specs.Spelling.{IsNormal}
use Rattle.py_scope.specs.Faults.{IsWellFormed}
use Rattle.py_meaning.specs.Modules.{LoadedModule, body_of}
use Rattle.py_changes.specs.Regular.{MarksSomething, IsRegular}

-- a tree that a text spells, without a fault of scopes
pub record IsText (m : LoadedModule) : Type 0 where
  pub normal : IsNormal m.body
  pub well_formed : IsWellFormed m.body

-- Modules that texts spell are as the laws ask, where the script marks a line.
abbrev pub RegularTexts : Type 0
RegularTexts =
    (ms : List LoadedModule) → All IsText ms → MarksSomething (body_of ms 0) → IsRegular ms
