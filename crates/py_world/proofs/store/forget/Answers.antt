use Rattle.std.proofs.Common.{◌<◌, ◌≤◌, length, ◌∙◌, arith}
use Rattle.py_world.proofs.Rooms.{forget_on, forget_here, forget_end}
use Rattle.py_world.proofs.store.forget.Goals as goal

pub returns-then-index-number : goal.returns-then-index-number
returns-then-index-number c =
    let lt : c.loop-place.place < length c.loop-place.numbers.items = omega (arith, c.loop-place-test.true, c.len.ensures) in
    c.remove.ensures.items ∙ forget_here c.args.number c.loop-place.numbers.items _ c.loop-place.place c.loop-place.invariant c.index.result.now lt c.index.ensures c.if-index-number.true

pub loop-place-preserved : goal.loop-place-preserved
loop-place-preserved c =
    let lt : c.loop-place.place < length c.loop-place.numbers.items = omega (arith, c.loop-place-test.true, c.len.ensures) in
    forget_on c.args.number c.loop-place.numbers.items _ c.loop-place.place c.loop-place.invariant c.index.result.now lt c.index.ensures c.if-index-number.false

pub returns : goal.returns
returns c =
    let le : length c.loop-place.numbers.items ≤ c.loop-place.place = omega (arith, c.loop-place-test.false, c.len.ensures) in
    forget_end c.args.number c.loop-place.numbers.items _ c.loop-place.place c.loop-place.invariant le
