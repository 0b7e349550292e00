use Rattle.std.proofs.Common.{◌<◌, ◌≤◌, length, arith}
use Rattle.py_world.proofs.OfModules.{one_more, enough_room}
use Rattle.py_world.proofs.store.make_room.Goals as goal

pub loop-alloc-preserved : goal.loop-alloc-preserved
loop-alloc-preserved c =
    let le : length c.loop-alloc.globals.items ≤ c.args.«module» = omega (arith, c.loop-alloc-test.true, c.len.ensures) in
    one_more c.args.«module» c.loop-alloc.globals.items c.push.new.self.items c.new.result _ c.in_ok-push.ensures.items c.new.ensures le c.loop-alloc.invariant

pub returns-clause-ok : goal.returns-clause-ok
returns-clause-ok c =
    let lt : c.args.«module» < length c.loop-alloc.globals.items = omega (arith, c.loop-alloc-test.false, c.len.ensures) in
    enough_room c.args.«module» c.loop-alloc.globals.items _ lt c.loop-alloc.invariant
