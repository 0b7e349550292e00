-- The functions of a module beside what was told of them.
use Rattle.std.specs.Prelude.{◌≡◌, ℕ, List}
use Rattle.py_compile.specs.Definitions.{Definition}
use Rattle.py_compile_body.specs.Parts.{lines_of}
use Rattle.py_scope.specs.Faults.{names_of}
use Rattle.py_scope.specs.Scopes.{Names}
use Rattle.py_syntax.specs.Functions.{Function}

-- the names of the function of a `def`
abbrev pub names_of_def : Definition → Names
names_of_def d = names_of d.function.params d.function.body

-- the `def`s of functions begin on these lines
abbrev pub DefsBeginAt : List Function → List ℕ → Type 0
DefsBeginAt fs lines = lines_of fs ≡ lines
