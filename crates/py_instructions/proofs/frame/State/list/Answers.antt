use Rattle.std.proofs.Common.{refl}
use Rattle.py_value.specs.HeapView.{plain_heap}
use Rattle.py_value.specs.View.{plains}
use Rattle.py_builtins.specs.Methods.{new_list}
use Rattle.py_code.specs.Machine.{makes}
use Rattle.py_code.specs.Slots.{by_slots}
use Rattle.py_instructions.specs.View.{plain_operands, seen}
use Rattle.py_instructions.proofs.Made.{made, many_taken}
use Rattle.py_instructions.proofs.frame.State.list.Goals as goal

pub returns : goal.returns
returns c =
    let m = c.args.self.now in
    let s = c.args.store.now in
    let left = c.take_values.new.self in
    let took = rw c.in-Some.is at c.in_ok-values.ensures in
    let values = c.in-Some.values in
    made _ m (record m { top = record m.top { operands = left } }) c.push_answer.new.self s c.new_list.new.heap (new_list (plains values.items) (plain_heap s.heap)) c.in_ok-answer.answer
    (λ ms o. many_taken (plain_operands m.top.operands) (plain_operands left) (seen m s o) (λ vs ys. makes (by_slots ms) ms (new_list vs (plain_heap s.heap)) ys (seen m s o)) c.args.n values took)
    (λ o. refl) c.in_ok-answer.ensures.answer c.in_ok-answer.ensures.raised c.push_answer.result c.push_answer.ensures
