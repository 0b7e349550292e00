-- What holds of the code of all statements.
use Rattle.std.specs.Prelude.{◌≡◌, ℕ, List, [], length, map}
use Rattle.py_syntax.specs.Functions.{Function, functions}
use Rattle.py_syntax.specs.Names.{local_names}
use Rattle.py_syntax.specs.Tree.{Stmts}
use Rattle.py_compile.specs.Definitions.{Definition, function_of, definitions}
use Rattle.py_compile.specs.Statements.{stmts_size, stmts_code}
use Rattle.py_compile.specs.Faithful.{IsFaithful}
use Rattle.py_compile.specs.Units.{module_code, function_code, body_function}
use Rattle.py_compile.specs.Ways.{Ways, in_hand}

-- Code is as long as its size says, wherever it stands, and by whatever ways it is left. So each
-- jump leads where it is to lead.
pub record SizesHold : Type 0 where
  pub stmts : (fs : List Function) (w : Ways) (p : ℕ) (ss : Stmts)
      → length (stmts_code fs w p ss) ≡ stmts_size (in_hand w) ss

-- The units of a module are its code: numbers name what the tree names, lines are those that it
-- marks, and each place has the handler that holds there. The `def`s are those of the functions.
pub record UnitsAreFaithful : Type 0 where
  pub body : (b : Stmts) → IsFaithful (functions b) (body_function b) 0 [] (module_code b)
  pub function : (b : Stmts) (d : Definition)
      → IsFaithful (functions b) d.function d.defaults
      (local_names d.function.params d.function.body) (function_code (functions b) d)
  pub functions : (b : Stmts) → map function_of (definitions b) ≡ functions b
