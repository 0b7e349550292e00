use Rattle.std.proofs.Common.{map, ap, ◌∙◌}
use Rattle.py_value.specs.HeapView.{plain_heap}
use Rattle.py_builtins.specs.World.{World}
use Rattle.py_world.specs.Globals.{names_of}
use Rattle.py_world.specs.Stores.{world_of}
use Rattle.py_world.proofs.store.Store.copy.Goals as goal

pub returns : goal.returns
returns c =
    let w = world_of c.args.self.now in
    ap (λ gs. let v : World = record { globals = gs; begun = c.in_ok-begun.begun.items; heap = plain_heap c.in_ok-heap.heap; words = w.words } in v) (c.in_ok-globals.ensures ∙ ap (map names_of) c.deref.ensures.value)
    ∙ ap (λ b. let v : World = record { globals = w.globals; begun = b; heap = plain_heap c.in_ok-heap.heap; words = w.words } in v) (c.in_ok-begun.ensures ∙ c.deref-2.ensures.value)
    ∙ ap (λ h. let v : World = record { globals = w.globals; begun = w.begun; heap = h; words = w.words } in v) c.in_ok-heap.ensures
