-- The `def`s of a text in memory.
--     definition_of                  a `def` as such
--     line_of, own_names             its line, and its local names
--     suite_definitions, suite_body  the `def`s of a suite, and its statements
--     defined                        the `def` that a header and a suite make
--     unit_with, body_unit_with      the units that cells make
use Rattle.std.specs.Prelude.{ℕ, List, []}
use Rattle.py_syntax.specs.Names.{local_names}
use Rattle.py_syntax.specs.Tree.{Text, Exprs, Stmts, no_stmts, Suite, suite}
use Rattle.py_syntax.specs.View.{plain_exprs, plain_stmts}
use Rattle.py_code.specs.Units.{Code}
use Rattle.py_compile.specs.Definitions.{Definition, definitions}
use Rattle.py_compile.specs.Units.{unit_of_cells, body_function}
use Rattle.py_compile_expr.specs.Cells.{Cell}
use Rattle.py_compile_expr.specs.Expressions.{count}
use Rattle.py_compile_unit.specs.declared.functions.Def.{Def}

-- a `def` in memory as such
abbrev pub definition_of : Def → Definition
definition_of d = record {
  function = record {
    line = d.line;
    name = d.name.now;
    params = d.params.now;
    body = plain_stmts d.body.now;
  };
  defaults = count (plain_exprs d.defaults.now);
}

-- its line
abbrev pub line_of : Definition → ℕ
line_of d = d.function.line

-- the local names of its function
abbrev pub own_names : Definition → List Text
own_names d = local_names d.function.params d.function.body

-- the `def`s of a suite
abbrev pub suite_definitions : Suite → List Definition
suite_definitions (suite first last inline body) = definitions body

-- the statements of a suite
abbrev pub suite_body : Suite → Stmts
suite_body (suite first last inline body) = body

-- a `def` in a line, by its name, parameters, defaults and suite
abbrev pub defined : (line : ℕ) → Text → (params : List Text) → Exprs → Suite → Definition
defined line x params defaults s = record {
  function = record {
    line = line;
    name = x;
    params = params;
    body = suite_body s;
  };
  defaults = count defaults;
}

-- the unit of a `def` whose body has these cells
abbrev pub unit_with : Definition → List Cell → Code
unit_with d cells = unit_of_cells d.function d.defaults (own_names d) cells

-- the unit of a module whose body has these cells
abbrev pub body_unit_with : List Cell → Code
body_unit_with cells = unit_of_cells (body_function no_stmts) 0 [] cells
