-- The units of modules.
--     handlers_of                    the handler table of cells
--     unit_code, units_code          the body of a module, and its functions
--     compiled                       all modules
use Rattle.std.specs.Prelude.{ℕ, ◌+◌, ◌==◌, ◌&&◌, Bool, true, false, if◌then◌else◌, List, [], ◌∷◌, ◌++◌, map, Option, Some, None}
use Rattle.py_syntax.specs.Functions.{Function, functions, without_docstring}
use Rattle.py_syntax.specs.Names.{local_names}
use Rattle.py_syntax.specs.Tree.{Text, Stmts}
use Rattle.py_meaning.specs.Modules.{LoadedModule}
use Rattle.py_code.specs.declared.instr.Instr.TheVariants.{Return}
use Rattle.py_code.specs.declared.unit.Constant.TheVariants.{None as NoneConstant}
use Rattle.py_code.specs.declared.unit.Handler.{Handler}
use Rattle.py_code.specs.Units.{Code, Module}
use Rattle.py_compile_expr.specs.Cells.{Op, constant, plain, Guard, Cell, put, instr_of, tables_of}
use Rattle.py_compile.specs.Definitions.{Definition, definitions}
use Rattle.py_compile.specs.Statements.{stmts_size, stmts_code}
use Rattle.py_compile.specs.Ways.{outermost}

-- whether two handlers are one
abbrev pub is_same_guard : Guard → Guard → Bool
is_same_guard a b = a.target == b.target && a.depth == b.depth

-- a range from a place on, as far as cells have this handler
abbrev pub closed : ℕ → ℕ → Option Guard → List Handler
closed from p None = []
closed from p (Some g) = record { from = from; to = p; target = g.target; depth = g.depth } ∷ []

-- the same of handlers that may be missing
abbrev pub is_same : Option Guard → Option Guard → Bool
is_same None None = true
is_same None (Some g) = false
is_same (Some g) None = false
is_same (Some g) (Some h) = is_same_guard g h

-- the ranges of the cells, where one with this handler is open from a place on
abbrev pub ranges : ℕ → Option Guard → ℕ → List Cell → List Handler
ranges from g p [] = closed from p g
ranges from g p (c ∷ cs) =
    if is_same g c.guard
    then ranges from g (p + 1) cs
    else closed from p g ++ ranges p c.guard (p + 1) cs

-- the handler table of cells
abbrev pub handlers_of : List Cell → List Handler
handlers_of cs = ranges 0 None 0 cs

-- the cells of a body, which gives None at its end
abbrev pub body_cells : List Function → Stmts → List Cell
body_cells fs body =
    stmts_code fs (outermost (stmts_size false body)) 0 body
    ++ put None (constant NoneConstant) (put None (plain Return) [])

-- the instruction of a cell
abbrev pub ops_of : Cell → Op
ops_of c = c.op

-- the unit of a function with these names in its slots, by its cells
abbrev pub unit_of_cells : Function → (defaults : ℕ) → (own : List Text) → List Cell → Code
unit_of_cells f defaults own cells =
    let tables = tables_of (record { own = own; names = []; constants = []; lines = [] }) cells in
    record {
      name = f.name;
      first = f.line;
      params = f.params;
      defaults = defaults;
      locals = tables.own;
      names = tables.names;
      constants = tables.constants;
      instrs = map (λ c. instr_of tables c.op) cells;
      lines = tables.lines;
      handlers = handlers_of cells;
    }

-- the body of a module as a function, which has no names of its own
abbrev pub body_function : Stmts → Function
body_function body = record { line = 1; name = []; params = []; body = body }

-- the unit of the body of a module
abbrev pub module_code : Stmts → Code
module_code body =
    unit_of_cells (body_function body) 0 [] (body_cells (functions body) (without_docstring body))

-- the unit of a function, among all functions of its module
abbrev pub function_code : List Function → Definition → Code
function_code fs d =
    let f = d.function in
    unit_of_cells f d.defaults (local_names f.params f.body)
    (body_cells fs (without_docstring f.body))

-- the units of a module: its body, and its functions in the order of the text
abbrev pub units_code : Stmts → List Code
units_code body = module_code body ∷ map (function_code (functions body)) (definitions body)

-- the code of a module
abbrev pub compiled : LoadedModule → Module
compiled m = record { name = m.name; units = units_code m.body }
