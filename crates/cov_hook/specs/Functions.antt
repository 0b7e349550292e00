-- The functions of a script, by their names.
use Rattle.std.specs.Prelude.{ℕ, List, [], ◌∷◌, map, Contains}
use Rattle.py_code.specs.Units.{Code, Module}

-- the name of the function that a unit is
abbrev pub name_of : Code → List ℕ
name_of u = u.name

-- the names of the functions of a module, in the order of their `def`s: the first unit is the body
abbrev pub names_after_body : List Code → List (List ℕ)
names_after_body [] = []
names_after_body (body ∷ units) = map name_of units

-- the names of the functions that the script defines (Python Language Reference, 8.7, "Function
-- definitions")
abbrev pub function_names : List Module → List (List ℕ)
function_names [] = []
function_names (script ∷ others) = names_after_body script.units

-- a function of this name stands among them
abbrev pub Defines : List Module → List ℕ → Type 0
Defines ms name = Contains (function_names ms) name
