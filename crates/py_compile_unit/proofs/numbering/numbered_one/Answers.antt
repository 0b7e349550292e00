use Rattle.std.proofs.Common.{◌==◌, refl, ap, sym, ◌∙◌}
use Rattle.py_text.specs.Comparison.{is_same_text}
use Rattle.py_code.specs.declared.instr.Instr.TheVariants.{Constant as ConstantAt, Attribute, Method, Import, Module, Mark, Again}
use Rattle.py_compile_expr.specs.Cells.{instr_of, is_same_constant, place_in, tables_with}
use Rattle.py_compile_expr.specs.CellView.{plain_op}
use Rattle.py_compile_unit.specs.Lists.{plain_lists}
use Rattle.py_compile_unit.proofs.Errs.{if_err}
use Rattle.py_compile_unit.proofs.Variables.{lists_as, instr_as, takes_instr, loads, stores, unsets}
use Rattle.py_compile_unit.proofs.numbering.numbered_one.Goals as goal

pub returns-in_ok-second-in-Take-clause-instr : goal.returns-in_ok-second-in-Take-clause-instr
returns-in_ok-second-in-Take-clause-instr c =
    takes_instr (plain_lists c.args.lists.now) c.in-Take.of c.in-Take.name c.in_ok-first-in-Take.first c.in_ok-second-in-Take.second _ _
    c.in_ok-first-in-Take.ensures.added c.in_ok-second-in-Take.ensures.added c.in_ok-first-in-Take.ensures.place c.in_ok-second-in-Take.ensures.place
    ∙ ap (λ o. instr_of (tables_with (plain_lists c.args.lists.now) (plain_op o)) (plain_op o)) (sym c.in-Take.is)

pub returns-in-Local-clause-lists : goal.returns-in-Local-clause-lists
returns-in-Local-clause-lists c = lists_as (plain_lists c.args.lists.now) _ _ _ c.in-Load.is c.in_ok-place-in-Load.ensures.lists

pub returns-in-Local-clause-instr : goal.returns-in-Local-clause-instr
returns-in-Local-clause-instr c = loads (plain_lists c.args.lists.now) c.in-Load.name c.in_ok-place-in-Load.field-0 _ _ c.in-Local.is c.in_ok-place-in-Load.ensures.variable (ap plain_op c.in-Load.is)

pub returns-in-Global-clause-lists : goal.returns-in-Global-clause-lists
returns-in-Global-clause-lists c = lists_as (plain_lists c.args.lists.now) _ _ _ c.in-Load.is c.in_ok-place-in-Load.ensures.lists

pub returns-in-Global-clause-instr : goal.returns-in-Global-clause-instr
returns-in-Global-clause-instr c = loads (plain_lists c.args.lists.now) c.in-Load.name c.in_ok-place-in-Load.field-0 _ _ c.in-Global.is c.in_ok-place-in-Load.ensures.variable (ap plain_op c.in-Load.is)

pub returns-in-Local-2-clause-lists : goal.returns-in-Local-2-clause-lists
returns-in-Local-2-clause-lists c = lists_as (plain_lists c.args.lists.now) _ _ _ c.in-Store.is c.in_ok-place-in-Store.ensures.lists

pub returns-in-Local-2-clause-instr : goal.returns-in-Local-2-clause-instr
returns-in-Local-2-clause-instr c = stores (plain_lists c.args.lists.now) c.in-Store.name c.in_ok-place-in-Store.field-0 _ _ c.in-Local-2.is c.in_ok-place-in-Store.ensures.variable (ap plain_op c.in-Store.is)

pub returns-in-Global-2-clause-lists : goal.returns-in-Global-2-clause-lists
returns-in-Global-2-clause-lists c = lists_as (plain_lists c.args.lists.now) _ _ _ c.in-Store.is c.in_ok-place-in-Store.ensures.lists

pub returns-in-Global-2-clause-instr : goal.returns-in-Global-2-clause-instr
returns-in-Global-2-clause-instr c = stores (plain_lists c.args.lists.now) c.in-Store.name c.in_ok-place-in-Store.field-0 _ _ c.in-Global-2.is c.in_ok-place-in-Store.ensures.variable (ap plain_op c.in-Store.is)

pub returns-in-Local-3-clause-lists : goal.returns-in-Local-3-clause-lists
returns-in-Local-3-clause-lists c = lists_as (plain_lists c.args.lists.now) _ _ _ c.in-Unset.is c.in_ok-place-in-Unset.ensures.lists

pub returns-in-Local-3-clause-instr : goal.returns-in-Local-3-clause-instr
returns-in-Local-3-clause-instr c = unsets (plain_lists c.args.lists.now) c.in-Unset.name c.in_ok-place-in-Unset.field-0 _ _ c.in-Local-3.is c.in_ok-place-in-Unset.ensures.variable (ap plain_op c.in-Unset.is)

pub returns-in-Global-3-clause-lists : goal.returns-in-Global-3-clause-lists
returns-in-Global-3-clause-lists c = lists_as (plain_lists c.args.lists.now) _ _ _ c.in-Unset.is c.in_ok-place-in-Unset.ensures.lists

pub returns-in-Global-3-clause-instr : goal.returns-in-Global-3-clause-instr
returns-in-Global-3-clause-instr c = unsets (plain_lists c.args.lists.now) c.in-Unset.name c.in_ok-place-in-Unset.field-0 _ _ c.in-Global-3.is c.in_ok-place-in-Unset.ensures.variable (ap plain_op c.in-Unset.is)

pub returns-in_ok-place-in-Attribute-clause-lists : goal.returns-in_ok-place-in-Attribute-clause-lists
returns-in_ok-place-in-Attribute-clause-lists c = lists_as (plain_lists c.args.lists.now) _ _ _ c.in-Attribute.is (ap (λ l. record (plain_lists c.args.lists.now) { names = l }) c.in_ok-place-in-Attribute.ensures.added)

pub returns-in_ok-place-in-Attribute-clause-instr : goal.returns-in_ok-place-in-Attribute-clause-instr
returns-in_ok-place-in-Attribute-clause-instr c = instr_as (plain_lists c.args.lists.now) _ _ _ c.in-Attribute.is (ap Attribute (c.in_ok-place-in-Attribute.ensures.place ∙ ap (λ l. place_in is_same_text l c.in-Attribute.name) c.in_ok-place-in-Attribute.ensures.added))

pub returns-in_ok-place-in-Method-clause-lists : goal.returns-in_ok-place-in-Method-clause-lists
returns-in_ok-place-in-Method-clause-lists c = lists_as (plain_lists c.args.lists.now) _ _ _ c.in-Method.is (ap (λ l. record (plain_lists c.args.lists.now) { names = l }) c.in_ok-place-in-Method.ensures.added)

pub returns-in_ok-place-in-Method-clause-instr : goal.returns-in_ok-place-in-Method-clause-instr
returns-in_ok-place-in-Method-clause-instr c = instr_as (plain_lists c.args.lists.now) _ _ _ c.in-Method.is (ap Method (c.in_ok-place-in-Method.ensures.place ∙ ap (λ l. place_in is_same_text l c.in-Method.name) c.in_ok-place-in-Method.ensures.added))

pub returns-in_ok-place-in-Import-clause-lists : goal.returns-in_ok-place-in-Import-clause-lists
returns-in_ok-place-in-Import-clause-lists c = lists_as (plain_lists c.args.lists.now) _ _ _ c.in-Import.is (ap (λ l. record (plain_lists c.args.lists.now) { names = l }) c.in_ok-place-in-Import.ensures.added)

pub returns-in_ok-place-in-Import-clause-instr : goal.returns-in_ok-place-in-Import-clause-instr
returns-in_ok-place-in-Import-clause-instr c = instr_as (plain_lists c.args.lists.now) _ _ _ c.in-Import.is (ap Import (c.in_ok-place-in-Import.ensures.place ∙ ap (λ l. place_in is_same_text l c.in-Import.name) c.in_ok-place-in-Import.ensures.added))

pub returns-in_ok-place-in-Module-clause-lists : goal.returns-in_ok-place-in-Module-clause-lists
returns-in_ok-place-in-Module-clause-lists c = lists_as (plain_lists c.args.lists.now) _ _ _ c.in-Module.is (ap (λ l. record (plain_lists c.args.lists.now) { names = l }) c.in_ok-place-in-Module.ensures.added)

pub returns-in_ok-place-in-Module-clause-instr : goal.returns-in_ok-place-in-Module-clause-instr
returns-in_ok-place-in-Module-clause-instr c = instr_as (plain_lists c.args.lists.now) _ _ _ c.in-Module.is (ap Module (c.in_ok-place-in-Module.ensures.place ∙ ap (λ l. place_in is_same_text l c.in-Module.name) c.in_ok-place-in-Module.ensures.added))

pub returns-in_ok-place-in-Mark-clause-lists : goal.returns-in_ok-place-in-Mark-clause-lists
returns-in_ok-place-in-Mark-clause-lists c = lists_as (plain_lists c.args.lists.now) _ _ _ c.in-Mark.is (ap (λ l. record (plain_lists c.args.lists.now) { lines = l }) c.in_ok-place-in-Mark.ensures.added)

pub returns-in_ok-place-in-Mark-clause-instr : goal.returns-in_ok-place-in-Mark-clause-instr
returns-in_ok-place-in-Mark-clause-instr c = instr_as (plain_lists c.args.lists.now) _ _ _ c.in-Mark.is (ap Mark (c.in_ok-place-in-Mark.ensures.place ∙ ap (λ l. place_in (λ a b. a == b) l c.in-Mark.line) c.in_ok-place-in-Mark.ensures.added))

pub returns-in_ok-place-in-Again-clause-lists : goal.returns-in_ok-place-in-Again-clause-lists
returns-in_ok-place-in-Again-clause-lists c = lists_as (plain_lists c.args.lists.now) _ _ _ c.in-Again.is (ap (λ l. record (plain_lists c.args.lists.now) { lines = l }) c.in_ok-place-in-Again.ensures.added)

pub returns-in_ok-place-in-Again-clause-instr : goal.returns-in_ok-place-in-Again-clause-instr
returns-in_ok-place-in-Again-clause-instr c = instr_as (plain_lists c.args.lists.now) _ _ _ c.in-Again.is (ap Again (c.in_ok-place-in-Again.ensures.place ∙ ap (λ l. place_in (λ a b. a == b) l c.in-Again.line) c.in_ok-place-in-Again.ensures.added))

pub returns-in_ok-place-in-Constant-clause-lists : goal.returns-in_ok-place-in-Constant-clause-lists
returns-in_ok-place-in-Constant-clause-lists c = lists_as (plain_lists c.args.lists.now) _ _ _ c.in-Constant.is (ap (λ l. record (plain_lists c.args.lists.now) { constants = l }) c.in_ok-place-in-Constant.ensures.added)

pub returns-in_ok-place-in-Constant-clause-instr : goal.returns-in_ok-place-in-Constant-clause-instr
returns-in_ok-place-in-Constant-clause-instr c = instr_as (plain_lists c.args.lists.now) _ _ _ c.in-Constant.is (ap ConstantAt (c.in_ok-place-in-Constant.ensures.place ∙ ap (λ l. place_in is_same_constant l c.in-Constant.constant) c.in_ok-place-in-Constant.ensures.added))

pub returns-in-Plain-clause-lists : goal.returns-in-Plain-clause-lists
returns-in-Plain-clause-lists c = lists_as (plain_lists c.args.lists.now) _ _ _ c.in-Plain.is refl

pub returns-in-Plain-clause-instr : goal.returns-in-Plain-clause-instr
returns-in-Plain-clause-instr c = instr_as (plain_lists c.args.lists.now) _ _ _ c.in-Plain.is refl

pub returns-in_err-place-in-Constant-clause-lists : goal.returns-in_err-place-in-Constant-clause-lists
returns-in_err-place-in-Constant-clause-lists c = if_err _ _ c.from_residual.ensures.0

pub returns-in_err-place-in-Constant-clause-instr : goal.returns-in_err-place-in-Constant-clause-instr
returns-in_err-place-in-Constant-clause-instr c = if_err _ _ c.from_residual.ensures.0

pub returns-in_err-place-in-Load-clause-lists : goal.returns-in_err-place-in-Load-clause-lists
returns-in_err-place-in-Load-clause-lists c = if_err _ _ c.from_residual-in_err-place-in-Load.ensures.0

pub returns-in_err-place-in-Load-clause-instr : goal.returns-in_err-place-in-Load-clause-instr
returns-in_err-place-in-Load-clause-instr c = if_err _ _ c.from_residual-in_err-place-in-Load.ensures.0

pub returns-in_err-place-in-Store-clause-lists : goal.returns-in_err-place-in-Store-clause-lists
returns-in_err-place-in-Store-clause-lists c = if_err _ _ c.from_residual-in_err-place-in-Store.ensures.0

pub returns-in_err-place-in-Store-clause-instr : goal.returns-in_err-place-in-Store-clause-instr
returns-in_err-place-in-Store-clause-instr c = if_err _ _ c.from_residual-in_err-place-in-Store.ensures.0

pub returns-in_err-place-in-Unset-clause-lists : goal.returns-in_err-place-in-Unset-clause-lists
returns-in_err-place-in-Unset-clause-lists c = if_err _ _ c.from_residual-in_err-place-in-Unset.ensures.0

pub returns-in_err-place-in-Unset-clause-instr : goal.returns-in_err-place-in-Unset-clause-instr
returns-in_err-place-in-Unset-clause-instr c = if_err _ _ c.from_residual-in_err-place-in-Unset.ensures.0

pub returns-in_err-place-in-Attribute-clause-lists : goal.returns-in_err-place-in-Attribute-clause-lists
returns-in_err-place-in-Attribute-clause-lists c = if_err _ _ c.from_residual-in_err-place-in-Attribute.ensures.0

pub returns-in_err-place-in-Attribute-clause-instr : goal.returns-in_err-place-in-Attribute-clause-instr
returns-in_err-place-in-Attribute-clause-instr c = if_err _ _ c.from_residual-in_err-place-in-Attribute.ensures.0

pub returns-in_err-place-in-Method-clause-lists : goal.returns-in_err-place-in-Method-clause-lists
returns-in_err-place-in-Method-clause-lists c = if_err _ _ c.from_residual-in_err-place-in-Method.ensures.0

pub returns-in_err-place-in-Method-clause-instr : goal.returns-in_err-place-in-Method-clause-instr
returns-in_err-place-in-Method-clause-instr c = if_err _ _ c.from_residual-in_err-place-in-Method.ensures.0

pub returns-in_err-place-in-Import-clause-lists : goal.returns-in_err-place-in-Import-clause-lists
returns-in_err-place-in-Import-clause-lists c = if_err _ _ c.from_residual-in_err-place-in-Import.ensures.0

pub returns-in_err-place-in-Import-clause-instr : goal.returns-in_err-place-in-Import-clause-instr
returns-in_err-place-in-Import-clause-instr c = if_err _ _ c.from_residual-in_err-place-in-Import.ensures.0

pub returns-in_err-place-in-Module-clause-lists : goal.returns-in_err-place-in-Module-clause-lists
returns-in_err-place-in-Module-clause-lists c = if_err _ _ c.from_residual-in_err-place-in-Module.ensures.0

pub returns-in_err-place-in-Module-clause-instr : goal.returns-in_err-place-in-Module-clause-instr
returns-in_err-place-in-Module-clause-instr c = if_err _ _ c.from_residual-in_err-place-in-Module.ensures.0

pub returns-in_err-first-in-Take-clause-lists : goal.returns-in_err-first-in-Take-clause-lists
returns-in_err-first-in-Take-clause-lists c = if_err _ _ c.from_residual-in_err-first-in-Take.ensures.0

pub returns-in_err-first-in-Take-clause-instr : goal.returns-in_err-first-in-Take-clause-instr
returns-in_err-first-in-Take-clause-instr c = if_err _ _ c.from_residual-in_err-first-in-Take.ensures.0

pub returns-in_err-second-in-Take-clause-lists : goal.returns-in_err-second-in-Take-clause-lists
returns-in_err-second-in-Take-clause-lists c = if_err _ _ c.from_residual-in_err-second-in-Take.ensures.0

pub returns-in_err-second-in-Take-clause-instr : goal.returns-in_err-second-in-Take-clause-instr
returns-in_err-second-in-Take-clause-instr c = if_err _ _ c.from_residual-in_err-second-in-Take.ensures.0

pub returns-in_err-place-in-Mark-clause-lists : goal.returns-in_err-place-in-Mark-clause-lists
returns-in_err-place-in-Mark-clause-lists c = if_err _ _ c.from_residual-in_err-place-in-Mark.ensures.0

pub returns-in_err-place-in-Mark-clause-instr : goal.returns-in_err-place-in-Mark-clause-instr
returns-in_err-place-in-Mark-clause-instr c = if_err _ _ c.from_residual-in_err-place-in-Mark.ensures.0

pub returns-in_err-place-in-Again-clause-lists : goal.returns-in_err-place-in-Again-clause-lists
returns-in_err-place-in-Again-clause-lists c = if_err _ _ c.from_residual-in_err-place-in-Again.ensures.0

pub returns-in_err-place-in-Again-clause-instr : goal.returns-in_err-place-in-Again-clause-instr
returns-in_err-place-in-Again-clause-instr c = if_err _ _ c.from_residual-in_err-place-in-Again.ensures.0
