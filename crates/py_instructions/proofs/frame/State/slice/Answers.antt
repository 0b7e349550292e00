use Rattle.std.proofs.Common.{refl}
use Rattle.py_value.specs.HeapView.{plain_heap}
use Rattle.py_value.specs.View.{plain}
use Rattle.py_builtins.specs.Making.{sliced}
use Rattle.py_code.specs.Units.{plain_unit}
use Rattle.py_world.specs.Values.{plain_option}
use Rattle.py_instructions.specs.View.{seen}
use Rattle.py_instructions.proofs.Made.{made}
use Rattle.py_instructions.proofs.frame.State.slice.Goals as goal

pub returns : goal.returns
returns c =
    let m = c.args.self.now in
    let s = c.args.store.now in
    made _ m (record m { top = record m.top { operands = c.take_sliced.new.self } }) c.push_answer.new.self s c.sliced-answer.new.heap (sliced (plain c.in-Some.of) (plain_option c.in-Some.from) (plain_option c.in-Some.to) (plain_heap s.heap)) c.in_ok-answer.field-0
    (λ ms o. c.in-Some.ensures ms (plain_unit c.args.unit.now) (seen m s o))
    (λ o. refl) c.in_ok-answer.ensures.answer c.in_ok-answer.ensures.raised c.push_answer.result c.push_answer.ensures

pub returns-in_default : goal.returns-in_default
returns-in_default c = λ ms o. c.in_default.ensures ms (plain_unit c.args.unit.now) (seen c.args.self.now c.args.store.now o)
