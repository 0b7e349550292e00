use Rattle.std.proofs.Common.{sym, ◌∙◌}
use Rattle.py_compile_unit.specs.Lists.{plain_lists}
use Rattle.py_compile_unit.proofs.Errs.{if_err}
use Rattle.py_compile_unit.proofs.Variables.{own_lists, own_variable, other_lists, other_variable}
use Rattle.py_compile_unit.proofs.numbering.variable_of.Goals as goal

pub returns-in_ok-place-clause-lists : goal.returns-in_ok-place-clause-lists
returns-in_ok-place-clause-lists c =
    own_lists (plain_lists c.args.lists.now) _ c.args.name.now (sym c.contains.ensures ∙ c.if-contains.true) c.in_ok-place.ensures.added

pub returns-in_ok-place-clause-variable : goal.returns-in_ok-place-clause-variable
returns-in_ok-place-clause-variable c =
    own_variable (plain_lists c.args.lists.now) c.in_ok-place.place c.args.name.now _ (sym c.contains.ensures ∙ c.if-contains.true) c.in_ok-place.ensures.added c.in_ok-place.ensures.place

pub returns-in_ok-place-2-clause-lists : goal.returns-in_ok-place-2-clause-lists
returns-in_ok-place-2-clause-lists c =
    other_lists (plain_lists c.args.lists.now) _ c.args.name.now (sym c.contains.ensures ∙ c.if-contains.false) c.in_ok-place-2.ensures.added

pub returns-in_ok-place-2-clause-variable : goal.returns-in_ok-place-2-clause-variable
returns-in_ok-place-2-clause-variable c =
    other_variable (plain_lists c.args.lists.now) c.in_ok-place-2.place c.args.name.now _ (sym c.contains.ensures ∙ c.if-contains.false) c.in_ok-place-2.ensures.added c.in_ok-place-2.ensures.place

pub returns-in_err-place-2-clause-lists : goal.returns-in_err-place-2-clause-lists
returns-in_err-place-2-clause-lists c = if_err _ _ c.from_residual-in_err-place-2.ensures.0

pub returns-in_err-place-2-clause-variable : goal.returns-in_err-place-2-clause-variable
returns-in_err-place-2-clause-variable c = if_err _ _ c.from_residual-in_err-place-2.ensures.0

pub returns-in_err-place-clause-lists : goal.returns-in_err-place-clause-lists
returns-in_err-place-clause-lists c = if_err _ _ c.from_residual.ensures.0

pub returns-in_err-place-clause-variable : goal.returns-in_err-place-clause-variable
returns-in_err-place-clause-variable c = if_err _ _ c.from_residual.ensures.0
