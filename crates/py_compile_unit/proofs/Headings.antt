-- The unit of a function by the parts of its heading.
use Rattle.std.proofs.Common.{◌≡◌, ℕ, List, Result, Ok, Err, IfOk, ap, ◌∙◌}
use Rattle.py_syntax.specs.Names.{distinct, local_names}
use Rattle.py_syntax.specs.Tree.{Text, no_stmts}
use Rattle.py_code.specs.declared.unit.Unit.{Unit as RawUnit}
use Rattle.py_code.specs.Units.{Code, plain_unit}
use Rattle.py_compile.specs.Definitions.{Definition}
use Rattle.py_compile.specs.Units.{unit_of_cells}
use Rattle.py_compile_expr.specs.Cells.{Cell}
use Rattle.py_compile_unit.specs.Defs.{unit_with}
use Rattle.py_compile_unit.proofs.OwnNames.{own_names}

-- an answer that is a unit
pub the_unit : {E : Type 0} (r : Result RawUnit E) (x y : Code) → IfOk r (λ u. plain_unit u ≡ x) → x ≡ y → IfOk r (λ u. plain_unit u ≡ y)
the_unit (Ok u) x y h e = h ∙ e
the_unit (Err f) x y h e = h

abbrev of_parts : Text → ℕ → List Text → ℕ → List Text → List Cell → Code
of_parts name first params defaults own cells = unit_of_cells (record { line = first; name = name; params = params; body = no_stmts }) defaults own cells

pub headed : (d : Definition) (name : Text) (first : ℕ) (params : List Text) (defaults : ℕ) (own : List Text) (cells : List Cell)
    → name ≡ d.function.name → first ≡ d.function.line → params ≡ d.function.params → defaults ≡ d.defaults → own ≡ local_names d.function.params d.function.body
    → of_parts name first params defaults (distinct own) cells ≡ unit_with d cells
headed d name first params defaults own cells a b c e f =
    ap (λ x. of_parts x first params defaults (distinct own) cells) a
    ∙ ap (λ x. of_parts d.function.name x params defaults (distinct own) cells) b
    ∙ ap (λ x. of_parts d.function.name d.function.line x defaults (distinct own) cells) c
    ∙ ap (λ x. of_parts d.function.name d.function.line d.function.params x (distinct own) cells) e
    ∙ ap (λ x. of_parts d.function.name d.function.line d.function.params d.defaults x cells) (ap distinct f ∙ own_names d.function.params d.function.body)
