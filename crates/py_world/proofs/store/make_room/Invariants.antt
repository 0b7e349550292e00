use Rattle.std.proofs.Common.{◌≡◌, ◌-◌, suc, length, map}
use Rattle.py_builtins.specs.World.{with_names_at}
use Rattle.py_world.specs.Globals.{names_of}
use Rattle.py_world.proofs.store.make_room.Given as goal

abbrev pub invariant-loop-alloc : goal.invariant-loop-alloc
invariant-loop-alloc l = with_names_at l.«module» (λ names. names) (map names_of l.globals.items) ≡ with_names_at l.«module» (λ names. names) (map names_of l.fn.globals.items)

abbrev pub decreases-loop-alloc : goal.decreases-loop-alloc
decreases-loop-alloc l = suc l.«module» - length l.globals.items
