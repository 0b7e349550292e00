use Rattle.py_value.specs.HeapView.{plain_heap}
use Rattle.py_value.specs.View.{plains, plain_outcome}
use Rattle.py_builtins.specs.Inputs.{Wrote}
use Rattle.py_machine.proofs.Following.{call_reads, call_ended}
use Rattle.py_machine.proofs.inputs.call_to_end.Goals as goal

pub returns-then-at_end-clause-answer : goal.returns-then-at_end-clause-answer
returns-then-at_end-clause-answer g c =
    call_ended g.I.Source.tells (g.I.Source.left c.args.input.now) (g.I.Source.left c.args.input.now) c.args.which (plains c.args.args.now) (plain_heap c.args.heap.now) (plain_outcome c.in_ok-call_builtin.field-0 (plain_heap c.call_builtin.new.heap)) (Wrote g.O.Sink.tells (g.O.Sink.contents c.args.out.now) (g.O.Sink.contents c.call_builtin.new.out))
    c.args.at_end.now c.if-at_end.true c.requires (Unit {0}) tt c.in_ok-call_builtin.ensures.answer

pub returns-clause-answer : goal.returns-clause-answer
returns-clause-answer g c =
    call_reads g.I.Source.tells (g.I.Source.left c.args.input.now) (g.I.Source.left c.call_builtin-2.new.input) c.args.which (plains c.args.args.now) (plain_heap c.args.heap.now) (plain_outcome c.in_ok-answer.answer (plain_heap c.call_builtin-2.new.heap)) (Wrote g.O.Sink.tells (g.O.Sink.contents c.args.out.now) (g.O.Sink.contents c.call_builtin-2.new.out))
    c.in_ok-answer.ensures.answer c.args.at_end.now c.finds_end.result c.if-at_end.false (c.finds_end.ensures (plain_heap c.call_builtin-2.new.heap))
