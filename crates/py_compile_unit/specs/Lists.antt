-- The lists of a unit.
--     plain_lists                    the lists in memory as such
--     variable_of                    where the value of a name is kept
--     instrs_of                      the instructions of cells
--     plain_heading                  what stands at the head of a function
use Rattle.std.specs.Prelude.{if◌then◌else◌, List, map}
use Rattle.py_text.specs.Comparison.{is_same_text}
use Rattle.py_syntax.specs.Functions.{Function}
use Rattle.py_syntax.specs.Names.{is_among}
use Rattle.py_syntax.specs.Tree.{Text, no_stmts}
use Rattle.py_code.specs.declared.instr.Instr.{Instr}
use Rattle.py_compile_expr.specs.Cells.{Cell, Tables, place_in, name_at, instr_of}
use Rattle.py_compile_unit.specs.declared.numbering.Lists.{Lists}
use Rattle.py_compile_unit.specs.declared.numbering.Variable.{Variable}
use Rattle.py_compile_unit.specs.declared.numbering.Variable.TheVariants.{Local, Global}
use Rattle.py_compile_unit.specs.declared.unit.Heading.{Heading}

-- the lists in memory as such
abbrev pub plain_lists : Lists → Tables
plain_lists l = record { own = l.own; names = l.names; constants = l.constants; lines = l.lines }

-- the slot of a name that is the unit's own, and the place of another one among the names
abbrev pub variable_of : Tables → Text → Variable
variable_of t x =
    if is_among t.own x then Local (place_in is_same_text t.own x) else Global (name_at t x)

-- the instructions of cells by the lists of their unit
abbrev pub instrs_of : Tables → List Cell → List Instr
instrs_of t = map (λ c. instr_of t c.op)

-- a heading as a function, whose statements the unit's cells stand for
abbrev pub plain_heading : Heading → Function
plain_heading h = record { line = h.first; name = h.name; params = h.params.items; body = no_stmts }
