use Rattle.std.proofs.Common.{◌≡◌, Some, sym, subst}
use Rattle.std.specs.Prelude.{IfSome}
use Rattle.py_value.specs.Plain.{int_value}
use Rattle.py_builtins.specs.World.{Names, value_of}
use Rattle.py_world.proofs.OfModules.{found_names}
use Rattle.py_world.proofs.store.Store.whole_at.Goals as goal

pub returns-in-Some-globals_of : goal.returns-in-Some-globals_of
returns-in-Some-globals_of c =
    subst (λ (ns : Names). IfSome c.whole.result (λ k. value_of c.args.name.now ns ≡ Some (int_value k)))
    (sym (found_names c.args.code.module c.args.self.now.globals.items c.in-Some-globals_of.globals.now c.in-Some-globals_of.ensures)) c.whole.ensures
