use Rattle.std.proofs.Common.{◌≡◌, drop}
use Rattle.py_builtins.specs.World.{is_among}
use Rattle.py_world.proofs.store.Store.is_begun.Given as goal

abbrev pub invariant-loop-number : goal.invariant-loop-number
invariant-loop-number l = is_among l.«module» (drop l.number-index l.number-items) ≡ is_among l.«module» l.number-items
