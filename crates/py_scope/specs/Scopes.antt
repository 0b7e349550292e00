-- What is told of a function.
use Rattle.std.specs.Prelude.{Bool, not, ◌&&◌, List, filter}
use Rattle.py_syntax.specs.Tree.{Text}
use Rattle.py_syntax.specs.Names.{is_among}

-- the names that it assigns, parameters first, and those that it declares `global`, each once, in
-- the order of the text
pub record Names : Type 0 where
  pub assigned : List Text
  pub globals : List Text

-- it assigns the name, and doesn't declare it `global`
abbrev pub is_local : Names → Text → Bool
is_local n x = is_among n.assigned x && not (is_among n.globals x)

-- it declares the name `global`
abbrev pub is_global : Names → Text → Bool
is_global n x = is_among n.globals x

-- the names that are local in it, in the order of its assignments
abbrev pub own_names : Names → List Text
own_names n = filter (λ x. not (is_among n.globals x)) n.assigned
