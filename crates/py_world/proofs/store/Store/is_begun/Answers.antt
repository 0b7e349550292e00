use Rattle.std.proofs.Common.{get_or, ap, sym, ◌∙◌}
use Rattle.py_builtins.specs.World.{is_among}
use Rattle.py_world.proofs.Rooms.{among_none, among_here, among_next}
use Rattle.py_world.proofs.Walked.{get_or_any, drop_here, all_dropped}
use Rattle.py_world.proofs.store.Store.is_begun.Goals as goal

pub returns-then-number-module : goal.returns-then-number-module
returns-then-number-module c =
    let items = c.deref-number-items.result.now in
    let x = get_or items c.loop-number.number-index 0 in
    let at = get_or_any items c.loop-number.number-index 0 x c.loop-number-test.true in
    sym (ap (is_among c.args.«module») (sym c.deref-number-items.ensures.value)
    ∙ sym c.loop-number.invariant
    ∙ ap (is_among c.args.«module») (drop_here items c.loop-number.number-index x c.loop-number-test.true at)
    ∙ among_here c.args.«module» x _ c.if-number-module.true)

pub loop-number-preserved : goal.loop-number-preserved
loop-number-preserved c =
    let items = c.deref-number-items.result.now in
    let x = get_or items c.loop-number.number-index 0 in
    let at = get_or_any items c.loop-number.number-index 0 x c.loop-number-test.true in
    sym (ap (is_among c.args.«module») (drop_here items c.loop-number.number-index x c.loop-number-test.true at)
    ∙ among_next c.args.«module» x _ c.if-number-module.false)
    ∙ c.loop-number.invariant

pub returns : goal.returns
returns c =
    let items = c.deref-number-items.result.now in
    sym (ap (is_among c.args.«module») (sym c.deref-number-items.ensures.value)
    ∙ sym c.loop-number.invariant
    ∙ ap (is_among c.args.«module») (all_dropped items c.loop-number.number-index c.loop-number-test.false)
    ∙ among_none c.args.«module»)
