use Rattle.std.proofs.Common.{subst}
use Rattle.py_value.specs.Answering.{Answers}
use Rattle.py_value.specs.HeapView.{plain_heap}
use Rattle.py_value.specs.View.{plain}
use Rattle.py_value.proofs.InPlace.{in_place-no_list}
use Rattle.py_value.proofs.augmented.in_place.Goals as goal

pub returns-in_default-clause-answer : goal.returns-in_default-clause-answer
returns-in_default-clause-answer c =
    subst (Answers c.binary.result c.binary.new.heap)
    (in_place-no_list c.args.op c.args.left.now (plain c.args.right.now) (plain_heap c.args.heap.now) c.in_default.not-List)
    c.binary.ensures.answer
