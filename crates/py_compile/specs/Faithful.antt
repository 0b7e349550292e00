-- Which unit is the code of a function or of a module's body.
use Rattle.std.specs.Prelude.{◌≡◌, ℕ, List, length}
use Rattle.py_syntax.specs.Functions.{Function, without_docstring}
use Rattle.py_syntax.specs.Tree.{Text}
use Rattle.py_code.specs.Units.{Code}
use Rattle.py_compile_expr.specs.Stands.{HasAt}
use Rattle.py_compile.specs.Units.{body_cells}

-- It has the function's name, first line and parameters, n defaults, these names in its slots, and
-- the code of its body from place 0 on, and no further instruction.
pub record IsFaithful (fs : List Function) (f : Function) (n : ℕ) (own : List Text) (u : Code) :
    Type 0 where
  pub name : u.name ≡ f.name
  pub first : u.first ≡ f.line
  pub params : u.params ≡ f.params
  pub defaults : u.defaults ≡ n
  pub locals : u.locals ≡ own
  pub has : HasAt u 0 (body_cells fs (without_docstring f.body))
  pub whole : length u.instrs ≡ length (body_cells fs (without_docstring f.body))
