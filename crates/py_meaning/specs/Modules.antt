-- The loaded modules, and the functions in their text (Python Language Reference, 8.7).
--     LoadedModule                      what is loaded
--     unit_at                           functions by the lines of their `def`s
--     body_of, name_of, unit_of         parts of modules by numbers
--     function_found                    a unit, where there is one
--     imported_number                   modules by names
use Rattle.std.specs.Prelude.{ℕ, zero, suc, nat_eq, if◌then◌else◌, List, [], ◌∷◌, Option, Some, None, slice_get}
use Rattle.cov_event.specs.declared.event.CodeId.{CodeId}
use Rattle.py_text.specs.Comparison.{is_same_text}
use Rattle.py_syntax.specs.Functions.{Function, functions}
use Rattle.py_syntax.specs.Tree.{Text, Stmts, no_stmts}

-- A loaded module. Its number is its place among the loaded ones: the script has 0.
pub record LoadedModule : Type 0 where
  pub name : Text
  pub path : Text
  pub body : Stmts

-- The number, from 1, of the function whose `def` begins at a line. Of two in one line, which no
-- text spells, it is the first.
unfoldable pub unit_at : ℕ → List Function → ℕ
unit_at l [] = 0
unit_at l (f ∷ fs) = if nat_eq f.line l then 1 else suc (unit_at l fs)

-- the body of a module, where there is one
abbrev pub module_body : Option LoadedModule → Stmts
module_body None = no_stmts
module_body (Some m) = m.body

-- the body of a module by its number
abbrev pub body_of : List LoadedModule → ℕ → Stmts
body_of ms m = module_body (slice_get ms m)

-- its name
abbrev pub module_name : Option LoadedModule → Text
module_name None = []
module_name (Some m) = m.name

-- the name of the module with a number
abbrev pub name_of : List LoadedModule → ℕ → Text
name_of ms m = module_name (slice_get ms m)

-- a function, or else the body of a module as one
abbrev pub function_or : Stmts → Option Function → Function
function_or b None = record { line = 1; name = []; params = []; body = b }
function_or b (Some f) = f

-- the unit with a number among those of a body
abbrev pub unit_in : Stmts → ℕ → Function
unit_in b zero = function_or b None
unit_in b (suc k) = function_or b (slice_get (functions b) k)

-- Unit 0 of a module is its body, which begins in line 1, and unit k its k-th `def`.
abbrev pub unit_of : List LoadedModule → CodeId → Function
unit_of ms code = unit_in (body_of ms code.module) code.unit

-- the function of a unit, where its module has it
abbrev pub function_in : Option LoadedModule → ℕ → Option Function
function_in None k = None
function_in (Some m) zero = Some (function_or m.body None)
function_in (Some m) (suc k) = slice_get (functions m.body) k

-- the unit of that number, where there is one
abbrev pub function_found : List LoadedModule → CodeId → Option Function
function_found ms code = function_in (slice_get ms code.module) code.unit

-- the number of the first module that has the name, from a number on
unfoldable pub number_from : ℕ → List LoadedModule → Text → Option ℕ
number_from n [] x = None
number_from n (m ∷ ms) x = if is_same_text x m.name then Some n else number_from (suc n) ms x

-- the module that an import names: never the script
abbrev pub imported_number : List LoadedModule → Text → Option ℕ
imported_number [] x = None
imported_number (script ∷ ms) x = number_from 1 ms x
