use Rattle.std.proofs.Common.{◌≡◌, min, length, ap, ◌∙◌, Ok, arith}
use Rattle.std.proofs.lemmas.Grind.{common_steps}
use Rattle.std.proofs.lemmas.Result.{IfOk-weaker}
use Rattle.py_value.specs.View.{plain}
use Rattle.py_value.specs.HeapView.{plain_heap}
use Rattle.py_value.specs.Comparison.{equal_within, order_within}
use Rattle.py_value.proofs.Levels.{order-none, order-more, order-ended}
use Rattle.py_value.proofs.ordering.+order.Goals as goal

pub order-returns-then-levels-eq0-clause-answer : goal.order-returns-then-levels-eq0-clause-answer
order-returns-then-levels-eq0-clause-answer t c = order-none c.args.levels (plain_heap c.args.heap.now) (plain c.args.left.now) (plain c.args.right.now) c.if-levels-eq0.true

pub order-returns-clause-answer : goal.order-returns-clause-answer
order-returns-clause-answer t c =
    IfOk-weaker c.order_inside.result _ _
    (λ answer e. e ∙ order-more c.args.levels (plain_heap c.args.heap.now) (plain c.args.left.now) (plain c.args.right.now) c.if-levels-eq0.false)
    c.order_inside.ensures.answer

pub order_items-returns-clause-answer : goal.order_items-returns-clause-answer
order_items-returns-clause-answer t c =
    let e : c.loop-i.i ≡ min (length c.args.left.now) (length c.args.right.now) = omega (arith, c.min-both.ensures) in
    ap Ok c.cmp.ensures ∙ order-ended (equal_within c.args.levels (plain_heap c.args.heap.now)) (order_within c.args.levels (plain_heap c.args.heap.now)) c.args.left.now c.args.right.now c.loop-i.i e ∙ c.loop-i.invariant.answer

pub order_items-loop-i-preserved : goal.order_items-loop-i-preserved
order_items-loop-i-preserved t c = record { answer = grind (arith, common_steps); counted = grind (arith, common_steps) }

pub order_items-returns-in-Ok-false-clause-answer : goal.order_items-returns-in-Ok-false-clause-answer
order_items-returns-in-Ok-false-clause-answer t c = grind (arith, common_steps)

pub order_items-returns-in-Err-clause-answer : goal.order_items-returns-in-Err-clause-answer
order_items-returns-in-Err-clause-answer t c = grind (arith, common_steps)
