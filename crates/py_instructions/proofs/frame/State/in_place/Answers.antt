use Rattle.std.proofs.Common.{refl}
use Rattle.py_value.specs.HeapView.{plain_heap}
use Rattle.py_value.specs.Operators.{in_place_of}
use Rattle.py_value.specs.View.{plain}
use Rattle.py_code.specs.Machine.{makes}
use Rattle.py_code.specs.Slots.{by_slots}
use Rattle.py_instructions.specs.View.{plain_operands, seen}
use Rattle.py_instructions.proofs.Made.{made, two_taken}
use Rattle.py_instructions.proofs.frame.State.in_place.Goals as goal

pub returns : goal.returns
returns c =
    let m = c.args.self.now in
    let s = c.args.store.now in
    let left = c.take_two_values.new.self in
    made _ m (record m { top = record m.top { operands = left } }) c.push_answer.new.self s c.in_place-answer.new.heap (in_place_of c.args.op (plain c.in-Some.left) (plain c.in-Some.right) (plain_heap s.heap)) c.in_ok-answer.field-0
    (λ ms o. two_taken (plain_operands m.top.operands) (plain_operands left) (seen m s o) (λ x y ys. makes (by_slots ms) ms (in_place_of c.args.op x y (plain_heap s.heap)) ys (seen m s o)) (c.in-Some.left, c.in-Some.right) c.in-Some.ensures)
    (λ o. refl) c.in_ok-answer.ensures.answer c.in_ok-answer.ensures.raised c.push_answer.result c.push_answer.ensures
