use Rattle.std.proofs.Common.{map, refl}
use Rattle.py_code.specs.Loaded.{module_of}
use Rattle.py_code.specs.Programs.{no_names}
use Rattle.py_world.specs.Globals.{names_of}
use Rattle.py_world.proofs.Copied.{made_more, made_all}
use Rattle.py_world.proofs.store.no_globals.Goals as goal

pub loop-program-preserved : goal.loop-program-preserved
loop-program-preserved c =
    made_more names_of (λ p. no_names (module_of p)) (λ ps. map no_names (map module_of ps)) (λ y ys. refl) c.args.modules.now c.loop-program.program-index c.program-item.result c.loop-program.globals.items c.push-in-loop-program.new.self.items c.in_ok-globals-2.field-0 _ c.loop-program-test.true c.program-item.is c.in_ok-push-2.ensures.items c.in_ok-globals-2.ensures c.loop-program.invariant

pub returns : goal.returns
returns c = made_all names_of (λ p. no_names (module_of p)) (λ ps. map no_names (map module_of ps)) refl c.args.modules.now c.loop-program.program-index c.loop-program.globals.items _ c.loop-program-test.false c.loop-program.invariant
