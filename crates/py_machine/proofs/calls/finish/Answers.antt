use Rattle.std.proofs.Common.{ap, refl}
use Rattle.py_value.specs.HeapView.{plain_heap}
use Rattle.py_value.specs.View.{plain_outcome}
use Rattle.py_builtins.specs.Inputs.{Wrote}
use Rattle.py_code.specs.Loaded.{modules_of}
use Rattle.py_code.specs.Machine.{outer_call, follows}
use Rattle.py_code.specs.Slots.{by_slots}
use Rattle.py_instructions.specs.View.{effects_of}
use Rattle.py_instructions.specs.Reaching.{plain_reach}
use Rattle.py_machine.proofs.Errs.{if_fault}
use Rattle.py_machine.proofs.AtOnce.{ran_as, asks_gives, asks_raises, gives_at_once, raises_at_once}
use Rattle.py_machine.proofs.Performs.{raised_keeps, reads_of, gains_of}
use Rattle.py_machine.proofs.StopsCalls.{ask_stops}
use Rattle.py_machine.proofs.StopsRuns.{stops_as}
use Rattle.py_machine.proofs.calls.finish.Goals as goal

pub returns-in-Gives-clause-ok : goal.returns-in-Gives-clause-ok
returns-in-Gives-clause-ok g c = gives_at_once g.T.Tracer.moves c.args.tracer.now g.O.Sink.tells (g.O.Sink.contents c.args.out.now) g.I.Source.tells (g.I.Source.left c.args.input.now) (modules_of c.args.programs.now) c.args.budget c.args.store.now c.args.reach c.in-Gives.value c.in-Gives.is

pub returns-in-Raises-clause-ok : goal.returns-in-Raises-clause-ok
returns-in-Raises-clause-ok g c = raises_at_once g.T.Tracer.moves c.args.tracer.now g.O.Sink.tells (g.O.Sink.contents c.args.out.now) g.I.Source.tells (g.I.Source.left c.args.input.now) (modules_of c.args.programs.now) c.args.budget c.args.store.now c.args.reach c.in-Raises.raised c.in-Raises.is

pub returns-in-Begins-clause-ok : goal.returns-in-Begins-clause-ok
returns-in-Begins-clause-ok g c =
    ran_as g.I.Source.tells (g.I.Source.left c.args.input.now) (g.I.Source.left c.begin.new.input) _ _ _ _ _ _ c.begin.new.store (λ o. ap (λ x. follows (by_slots (modules_of c.args.programs.now)) (modules_of c.args.programs.now) (outer_call (by_slots (modules_of c.args.programs.now)) (modules_of c.args.programs.now) (plain_reach x (effects_of c.args.store.now o)) c.args.budget (effects_of c.args.store.now o))) c.in-Begins.is)
    c.in_ok-begin-in-Begins.ensures.ok

pub returns-in_err-begin-in-Begins-clause-given_up : goal.returns-in_err-begin-in-Begins-clause-given_up
returns-in_err-begin-in-Begins-clause-given_up g c =
    if_fault _ _ _ c.from_residual.ensures.1 (stops_as g.I.Source.tells (g.I.Source.left c.args.input.now) (g.I.Source.left c.begin.new.input) _ g.O.Sink.tells (g.O.Sink.contents c.args.out.now) (g.O.Sink.contents c.begin.new.out) c.args.store.now c.args.store.now _ _ (λ o. ap (λ x. follows (by_slots (modules_of c.args.programs.now)) (modules_of c.args.programs.now) (outer_call (by_slots (modules_of c.args.programs.now)) (modules_of c.args.programs.now) (plain_reach x (effects_of c.args.store.now o)) c.args.budget (effects_of c.args.store.now o))) c.in-Begins.is)
    c.in_err-begin-in-Begins.ensures.given_up)

pub returns-in-Ok-clause-ok : goal.returns-in-Ok-clause-ok
returns-in-Ok-clause-ok g c =
    asks_gives g.T.Tracer.moves c.args.tracer.now g.O.Sink.tells (g.O.Sink.contents c.args.out.now) (g.O.Sink.contents c.call_builtin.new.out) g.I.Source.tells (g.I.Source.left c.args.input.now) (g.I.Source.left c.call_builtin.new.input) (modules_of c.args.programs.now) c.in-Asks.which c.in-Asks.values c.args.budget c.args.store.now (record c.args.store.now { heap = c.call_builtin.new.heap }) c.args.reach c.in-Asks.is c.in_ok-value-in-Asks.field-0 (plain_heap c.call_builtin.new.heap) (reads_of g.I.Source.tells (g.I.Source.left c.args.input.now) (g.I.Source.left c.call_builtin.new.input) c.in-Asks.which (plain_heap c.args.store.now.heap) (plain_outcome c.in_ok-value-in-Asks.field-0 (plain_heap c.call_builtin.new.heap)) (Wrote g.O.Sink.tells (g.O.Sink.contents c.args.out.now) (g.O.Sink.contents c.call_builtin.new.out)) c.deref.result.now c.in-Asks.values.items c.deref.ensures.value c.in_ok-value-in-Asks.ensures.answer) c.in-Ok.value c.in-Ok.is refl

pub returns-clause-ok : goal.returns-clause-ok
returns-clause-ok g c =
    asks_raises g.T.Tracer.moves c.args.tracer.now g.O.Sink.tells (g.O.Sink.contents c.args.out.now) (g.O.Sink.contents c.call_builtin.new.out) g.I.Source.tells (g.I.Source.left c.args.input.now) (g.I.Source.left c.call_builtin.new.input) (modules_of c.args.programs.now) c.in-Asks.which c.in-Asks.values c.args.budget c.args.store.now (record c.args.store.now { heap = c.call_builtin.new.heap }) c.args.reach c.in-Asks.is c.in_ok-value-in-Asks.field-0 (plain_heap c.call_builtin.new.heap) (reads_of g.I.Source.tells (g.I.Source.left c.args.input.now) (g.I.Source.left c.call_builtin.new.input) c.in-Asks.which (plain_heap c.args.store.now.heap) (plain_outcome c.in_ok-value-in-Asks.field-0 (plain_heap c.call_builtin.new.heap)) (Wrote g.O.Sink.tells (g.O.Sink.contents c.args.out.now) (g.O.Sink.contents c.call_builtin.new.out)) c.deref.result.now c.in-Asks.values.items c.deref.ensures.value c.in_ok-value-in-Asks.ensures.answer) c.in-Err.raised c.in-Err.is (raised_keeps c.args.store.now c.call_builtin.new.heap c.in_ok-value-in-Asks.field-0 c.in-Err.raised c.in-Err.is c.in_ok-value-in-Asks.ensures.raised)

pub returns-in_err-value-in-Asks-clause-given_up : goal.returns-in_err-value-in-Asks-clause-given_up
returns-in_err-value-in-Asks-clause-given_up g c =
    if_fault _ _ _ c.from_residual-in_err-value-in-Asks.ensures.1 (ask_stops g.T.Tracer.moves g.T.Tracer.refused _ g.O.Sink.tells g.I.Source.tells (g.O.Sink.contents c.args.out.now) (g.O.Sink.contents c.call_builtin.new.out) (g.I.Source.left c.args.input.now) (g.I.Source.left c.call_builtin.new.input) (modules_of c.args.programs.now) c.in-Asks.which c.in-Asks.values c.args.budget c.args.store.now c.args.reach c.in-Asks.is
    c.in_err-value-in-Asks.ensures.lost (gains_of g.O.Sink.tells (g.O.Sink.contents c.args.out.now) (g.O.Sink.contents c.call_builtin.new.out) c.in-Asks.which (plain_heap c.args.store.now.heap) (g.I.Source.left c.args.input.now) c.deref.result.now c.in-Asks.values.items c.deref.ensures.value c.in_err-value-in-Asks.ensures.gained) c.args.tracer.now)
