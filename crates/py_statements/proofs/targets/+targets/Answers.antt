use Rattle.std.proofs.Common.{rules}
use Rattle.py_statements.proofs.View.TargetItems.{an_item, no_item, no_more}
use Rattle.py_statements.proofs.targets.+targets.Goals as goal

pub are_targets-returns-then-not-is_target : goal.are_targets-returns-then-not-is_target
are_targets-returns-then-not-is_target t c = no_item c.args.items.now c.loop-item.item-index c.item-item.result c.loop-item-test.true c.item-item.is (search rules) c.loop-item.invariant

pub are_targets-returns : goal.are_targets-returns
are_targets-returns t c = no_more c.args.items.now c.loop-item.item-index c.loop-item-test.false c.loop-item.invariant

pub are_targets-loop-item-preserved : goal.are_targets-loop-item-preserved
are_targets-loop-item-preserved t c = an_item c.args.items.now c.loop-item.item-index c.item-item.result c.loop-item-test.true c.item-item.is (search rules) c.loop-item.invariant
