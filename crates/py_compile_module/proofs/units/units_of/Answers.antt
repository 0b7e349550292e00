use Rattle.std.proofs.Common.{◌≡◌, ◌<◌, [], ◌∷◌, ◌++◌, length, map, ap, sym, ◌∙◌, arith}
use Rattle.std.proofs.lemmas.List.{length-map}
use Rattle.py_code.specs.Units.{plain_unit}
use Rattle.py_code.specs.Valid.{most_units}
use Rattle.py_compile.specs.Definitions.{definitions}
use Rattle.py_compile.specs.Units.{module_code, function_code, body_cells}
use Rattle.py_compile_module.proofs.NamesOfDefs.{names_are}
use Rattle.py_compile_module.proofs.Turns.{lines_are}
use Rattle.py_compile_module.proofs.units.units_of.Goals as goal
use Rattle.py_compile_module.specs.Scoped.{names_of_def, DefsBeginAt}
use Rattle.py_compile_body.specs.Parts.{lines_of}
use Rattle.py_syntax.specs.Functions.{functions, without_docstring}
use Rattle.py_syntax.specs.View.{plain_stmts, plain_module}
use Rattle.py_compile_unit.specs.Defs.{definition_of, line_of, body_unit_with}

pub add_functions-requires : goal.add_functions-requires
add_functions-requires c =
    c.requires.scopes ∙ names_are (plain_module c.args.module.now) c.requires.well_formed
    ∙ ap (map names_of_def) (sym (ap (map definition_of) c.deref-3.ensures.value ∙ c.in_ok-defs.ensures))

pub returns-clause-few : goal.returns-clause-few
returns-clause-few c =
    let found = ap length c.in_ok-defs.ensures in
    let few : length (definitions (plain_module c.args.module.now)) < most_units =
    omega (arith, found, length-map c.in_ok-defs.defs.items definition_of, c.len-count.ensures, c.if-count-ge-MOST_UNITS.false) in
    few

pub returns-clause-units : goal.returns-clause-units
returns-clause-units c =
    let b = plain_module c.args.module.now in
    let fs = functions b in
    let found : map definition_of c.deref.result.now ≡ definitions b = ap (map definition_of) c.deref.ensures.value ∙ c.in_ok-defs.ensures in
    let at : DefsBeginAt fs c.in_ok-places.places =
    ap lines_of (sym (c.units_are_faithful.ensures.functions b)) ∙ lines_are (definitions b) ∙ ap (map line_of) (sym found) ∙ sym c.in_ok-lines.ensures ∙ sym c.in_ok-places.ensures in
    let cells = c.cells-2.ensures ∙ c.in_ok-cells.ensures fs at ∙ ap (λ s. body_cells fs (without_docstring (plain_stmts s))) c.deref-2.ensures.value in
    let body = c.in_ok-body.ensures ∙ ap body_unit_with cells in
    let first : map plain_unit c.push.new.self.items ≡ module_code b ∷ [] =
    ap (map plain_unit) (c.in_ok-push.ensures.items ∙ ap (λ us. us ++ c.in_ok-body.body ∷ []) c.new-units.ensures.items) ∙ ap (λ u. u ∷ []) body in
    c.in_ok-add_functions.ensures fs at ∙ ap (λ us. us ++ map (function_code fs) (map definition_of c.deref-3.result.now)) first
    ∙ ap (λ ds. module_code b ∷ map (function_code fs) ds) (ap (map definition_of) c.deref-3.ensures.value ∙ c.in_ok-defs.ensures)
