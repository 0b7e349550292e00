use Rattle.std.proofs.Common.{◌≡◌, None, Some, ap, sym, ◌∙◌, subst}
use Rattle.std.specs.Prelude.{MatchOption}
use Rattle.py_value.specs.View.{plain}
use Rattle.py_builtins.specs.World.{Names, value_of}
use Rattle.py_world.proofs.OfModules.{found_names, no_names}
use Rattle.py_world.proofs.SetNames.{value_none}
use Rattle.py_world.proofs.store.Store.found.Goals as goal

pub returns-in-None : goal.returns-in-None
returns-in-None c =
    ap (value_of c.args.name.now) (no_names c.args.«module» c.args.self.now.globals.items c.in-None.ensures) ∙ value_none c.args.name.now

pub returns-in-Some : goal.returns-in-Some
returns-in-Some c =
    subst (λ (ns : Names). MatchOption c.get.result (value_of c.args.name.now ns ≡ None) (λ v. value_of c.args.name.now ns ≡ Some (plain v.now)))
    (sym (found_names c.args.«module» c.args.self.now.globals.items c.in-Some.globals.now c.in-Some.ensures)) c.get.ensures
