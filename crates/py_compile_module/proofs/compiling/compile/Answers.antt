use Rattle.std.proofs.Common.{[], ◌∷◌, subst, sym, ◌∙◌}
use Rattle.py_code.specs.Valid.{IsCode}
use Rattle.py_compile.specs.ProgramRuns.{HasUnits}
use Rattle.py_syntax.specs.View.{plain_module}
use Rattle.py_compile_module.proofs.compiling.compile.Goals as goal

pub new-requires : goal.new-requires
new-requires c =
    subst IsCode (sym c.in_ok-units.ensures.units)
    (c.code_fits.ensures (plain_module c.args.module.now) c.requires.well_formed c.in_ok-units.ensures.few)

pub returns-clause-faithful : goal.returns-clause-faithful
returns-clause-faithful c =
    let b = plain_module c.args.module.now in
    subst (HasUnits b) (sym (c.new.ensures ∙ c.in_ok-units.ensures.units)) (c.programs_run.ensures.compiles (record { name = []; path = []; body = b } ∷ [])).1

pub returns-clause-exact : goal.returns-clause-exact
returns-clause-exact c = c.new.ensures ∙ c.in_ok-units.ensures.units
