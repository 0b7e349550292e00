use Rattle.std.proofs.Common.{map, ap}
use Rattle.py_value.specs.View.{plain}
use Rattle.py_builtins.specs.World.{World, with_name}
use Rattle.py_world.specs.Globals.{names_of}
use Rattle.py_world.specs.Stores.{world_of}
use Rattle.py_world.proofs.OfModules.{changed_at}
use Rattle.py_world.proofs.store.Store.set_global.Goals as goal

pub returns : goal.returns
returns c =
    ap (λ gs. let w : World = record (world_of c.args.self.now) { globals = gs } in w)
    (changed_at c.args.code.module (map names_of c.args.self.now.globals.items) c.make_room.new.globals.items c.index_mut.result.now c.set.new.self (with_name c.args.name.now (plain c.args.value)) c.in_ok-make_room.ensures.ok c.in_ok-make_room.ensures.room c.index_mut.ensures.value c.in_ok-set.ensures)
