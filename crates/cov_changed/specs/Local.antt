-- The local names of a function, by the names that it binds.
use Rattle.std.specs.Prelude.{◌≡◌, Bool, not, ◌&&◌, List, ◌++◌, filter}
use Rattle.py_syntax.specs.Names.{Binding, assigned_in, declared_in, is_among}
use Rattle.py_syntax.specs.Tree.{Text}

-- of names, those that aren't declared `global`
abbrev pub undeclared : List Text → List Text → List Text
undeclared declared xs = filter (λ x. not (is_among declared x)) xs

-- whether a name is a parameter or assigned, and isn't declared `global`
abbrev pub is_local_by : List Text → List Binding → Text → Bool
is_local_by params bs x =
    is_among (params ++ assigned_in bs) x && not (is_among (declared_in bs) x)

-- names that stand for all local ones
abbrev pub AreLocal : List Text → List Text → List Binding → Type 0
AreLocal names params bs = (x : Text) → is_among names x ≡ is_local_by params bs x
