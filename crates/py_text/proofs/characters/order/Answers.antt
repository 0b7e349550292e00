use Rattle.std.proofs.Common.{◌∙◌}
use Rattle.std.specs.Str.Iter.{chars_rest}
use Rattle.py_text.proofs.Walks.{order_later, order_now, order_ended, order_outlasts, order_same}
use Rattle.std.proofs.lemmas.Str.{IsUtf8-past_char}
use Rattle.py_text.proofs.characters.order.Goals as goal

pub returns-in-None-next : goal.returns-in-None-next
returns-in-None-next c = order_same (chars_rest c.loop-theirs.ours) (chars_rest c.loop-theirs.theirs) _ c.in-None.ensures.steps.0.0 c.in-None-next.ensures.steps.0.0 c.loop-theirs.invariant.0

pub returns-in-Some-next : goal.returns-in-Some-next
returns-in-Some-next c =
    order_ended (chars_rest c.loop-theirs.ours) (chars_rest c.loop-theirs.theirs) (chars_rest c.next-in-None.new.self) c.in-Some-next.field-0 _ c.loop-theirs.invariant.2 c.in-None.ensures.steps.0.0 c.in-Some-next.ensures.steps.0 c.loop-theirs.invariant.0

pub returns-in-None-next-2 : goal.returns-in-None-next-2
returns-in-None-next-2 c =
    order_outlasts (chars_rest c.loop-theirs.ours) (chars_rest c.loop-theirs.theirs) (chars_rest c.next.new.self) c.in-Some.c _ c.loop-theirs.invariant.1 c.in-None-next-2.ensures.steps.0.0 c.in-Some.ensures.steps.0 c.loop-theirs.invariant.0

pub returns-then-c-d : goal.returns-then-c-d
returns-then-c-d c =
    c.cmp.ensures ∙ order_now (chars_rest c.loop-theirs.ours) (chars_rest c.loop-theirs.theirs) (chars_rest c.next.new.self) (chars_rest c.next-in-Some.new.self) c.in-Some.c c.in-Some-next-2.d _ c.loop-theirs.invariant.1 c.loop-theirs.invariant.2 c.in-Some.ensures.steps.0 c.in-Some-next-2.ensures.steps.0 c.if-c-d.true c.loop-theirs.invariant.0

pub loop-theirs-preserved : goal.loop-theirs-preserved
loop-theirs-preserved c = (
  order_later (chars_rest c.loop-theirs.ours) (chars_rest c.loop-theirs.theirs) (chars_rest c.next.new.self) (chars_rest c.next-in-Some.new.self) c.in-Some.c c.in-Some-next-2.d _ c.loop-theirs.invariant.1 c.loop-theirs.invariant.2 c.in-Some.ensures.steps.0 c.in-Some-next-2.ensures.steps.0 c.if-c-d.false c.loop-theirs.invariant.0,
  IsUtf8-past_char (chars_rest c.loop-theirs.ours) (chars_rest c.next.new.self) c.in-Some.c c.loop-theirs.invariant.1 c.in-Some.ensures.steps.0,
  IsUtf8-past_char (chars_rest c.loop-theirs.theirs) (chars_rest c.next-in-Some.new.self) c.in-Some-next-2.d c.loop-theirs.invariant.2 c.in-Some-next-2.ensures.steps.0,
)
