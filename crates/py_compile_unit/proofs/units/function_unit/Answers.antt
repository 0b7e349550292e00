use Rattle.py_compile_unit.proofs.Errs.{if_err}
use Rattle.py_compile_unit.proofs.Headings.{the_unit, headed}
use Rattle.py_compile_unit.specs.Defs.{definition_of}
use Rattle.py_compile_unit.proofs.units.function_unit.Goals as goal

pub returns : goal.returns
returns c =
    the_unit c.unit_of.result _ _ c.unit_of.ensures
    (headed (definition_of c.args.def.now) c.in_ok-heading.heading.name c.in_ok-heading.heading.first c.in_ok-heading.heading.params.items c.in_ok-heading.heading.defaults c.args.own.now _
    c.in_ok-heading.ensures.name c.in_ok-heading.ensures.first c.in_ok-heading.ensures.params c.in_ok-heading.ensures.defaults c.requires)

pub returns-in_err-heading : goal.returns-in_err-heading
returns-in_err-heading c = if_err _ _ c.from_residual.ensures.0
