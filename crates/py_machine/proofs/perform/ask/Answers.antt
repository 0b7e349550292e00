use Rattle.std.proofs.Common.{refl, arith}
use Rattle.py_value.specs.HeapView.{plain_heap}
use Rattle.py_value.specs.View.{plain_outcome}
use Rattle.py_builtins.specs.Inputs.{Wrote}
use Rattle.py_code.specs.Loaded.{modules_of}
use Rattle.py_machine.proofs.Errs.{if_fault}
use Rattle.py_machine.proofs.TracerCalls.{calls_some, calls_taken}
use Rattle.py_machine.proofs.Performs.{asked_gives, asked_raises, raised_keeps, hears_of, gains_of}
use Rattle.py_machine.proofs.Stops.{asks_some, asked_stops, thrown_stops}
use Rattle.py_machine.proofs.perform.ask.Goals as goal

pub returns-in_ok-push-in-Some-clause-ok : goal.returns-in_ok-push-in-Some-clause-ok
returns-in_ok-push-in-Some-clause-ok g c =
    asked_gives g.T.Tracer.moves g.O.Sink.tells g.I.Source.tells (g.O.Sink.contents c.args.out.now) (g.O.Sink.contents c.call_to_end.new.out) (g.I.Source.left c.args.input.now) (g.I.Source.left c.call_to_end.new.input) c.args.at_end.now c.call_to_end.new.at_end (modules_of c.args.programs.now) c.args.which c.args.values c.args.m.now c.args.store.now (record c.args.store.now { heap = c.call_to_end.new.heap }) c.in_ok-answer.answer (plain_heap c.call_to_end.new.heap) (hears_of g.I.Source.tells (g.I.Source.left c.args.input.now) (g.I.Source.left c.call_to_end.new.input) c.args.at_end.now c.call_to_end.new.at_end c.args.which (plain_heap c.args.store.now.heap) (plain_outcome c.in_ok-answer.answer (plain_heap c.call_to_end.new.heap)) (Wrote g.O.Sink.tells (g.O.Sink.contents c.args.out.now) (g.O.Sink.contents c.call_to_end.new.out)) c.deref.result.now c.args.values.items c.deref.ensures.value c.in_ok-answer.ensures.answer)
    c.args.tracer.now c.in-Ok.value c.in-Ok.is refl c.in-Some.place (omega arith) c.push.new.self c.in_ok-push-in-Some.ensures.ok

pub returns-in_ok-throw-in-Err-clause-ok : goal.returns-in_ok-throw-in-Err-clause-ok
returns-in_ok-throw-in-Err-clause-ok g c =
    asked_raises g.T.Tracer.moves g.O.Sink.tells g.I.Source.tells (g.O.Sink.contents c.args.out.now) (g.O.Sink.contents c.call_to_end.new.out) (g.I.Source.left c.args.input.now) (g.I.Source.left c.call_to_end.new.input) c.args.at_end.now c.call_to_end.new.at_end (modules_of c.args.programs.now) c.args.which c.args.values c.args.m.now c.args.store.now (record c.args.store.now { heap = c.call_to_end.new.heap }) c.in_ok-answer.answer (plain_heap c.call_to_end.new.heap) (hears_of g.I.Source.tells (g.I.Source.left c.args.input.now) (g.I.Source.left c.call_to_end.new.input) c.args.at_end.now c.call_to_end.new.at_end c.args.which (plain_heap c.args.store.now.heap) (plain_outcome c.in_ok-answer.answer (plain_heap c.call_to_end.new.heap)) (Wrote g.O.Sink.tells (g.O.Sink.contents c.args.out.now) (g.O.Sink.contents c.call_to_end.new.out)) c.deref.result.now c.args.values.items c.deref.ensures.value c.in_ok-answer.ensures.answer)
    c.args.tracer.now c.throw.new.tracer c.in-Err.raised c.in-Err.is (raised_keeps c.args.store.now c.call_to_end.new.heap c.in_ok-answer.answer c.in-Err.raised c.in-Err.is c.in_ok-answer.ensures.raised) _ c.in_ok-throw-in-Err.field-0 c.in_ok-throw-in-Err.ensures.ok

pub returns-in_err-answer-clause-given_up : goal.returns-in_err-answer-clause-given_up
returns-in_err-answer-clause-given_up g c =
    if_fault _ _ _ c.from_residual.ensures.1 (asks_some g.T.Tracer.moves g.T.Tracer.refused _ g.O.Sink.tells g.I.Source.tells (g.O.Sink.contents c.args.out.now) (g.O.Sink.contents c.call_to_end.new.out) (g.I.Source.left c.args.input.now) (g.I.Source.left c.call_to_end.new.input) c.args.at_end.now (modules_of c.args.programs.now) c.args.which c.args.values c.args.m.now c.args.store.now c.requires c.in_err-answer.ensures.lost (gains_of g.O.Sink.tells (g.O.Sink.contents c.args.out.now) (g.O.Sink.contents c.call_to_end.new.out) c.args.which (plain_heap c.args.store.now.heap) (g.I.Source.left c.args.input.now) c.deref.result.now c.args.values.items c.deref.ensures.value c.in_err-answer.ensures.gained) c.args.tracer.now)

pub returns-in-None-clause-given_up : goal.returns-in-None-clause-given_up
returns-in-None-clause-given_up g c = asked_stops g.T.Tracer.moves g.T.Tracer.refused g.O.Sink.tells g.I.Source.tells (g.O.Sink.contents c.args.out.now) (g.O.Sink.contents c.call_to_end.new.out) (g.I.Source.left c.args.input.now) (g.I.Source.left c.call_to_end.new.input) c.args.at_end.now c.call_to_end.new.at_end (modules_of c.args.programs.now) c.args.which c.args.values c.args.m.now c.args.store.now c.in_ok-answer.answer (plain_heap c.call_to_end.new.heap) (hears_of g.I.Source.tells (g.I.Source.left c.args.input.now) (g.I.Source.left c.call_to_end.new.input) c.args.at_end.now c.call_to_end.new.at_end c.args.which (plain_heap c.args.store.now.heap) (plain_outcome c.in_ok-answer.answer (plain_heap c.call_to_end.new.heap)) (Wrote g.O.Sink.tells (g.O.Sink.contents c.args.out.now) (g.O.Sink.contents c.call_to_end.new.out)) c.deref.result.now c.args.values.items c.deref.ensures.value c.in_ok-answer.ensures.answer) c.args.tracer.now

pub returns-in_err-push-in-Some-clause-given_up : goal.returns-in_err-push-in-Some-clause-given_up
returns-in_err-push-in-Some-clause-given_up g c = if_fault _ _ _ c.from_residual-in_err-push-in-Some.ensures.1 (asked_stops g.T.Tracer.moves g.T.Tracer.refused g.O.Sink.tells g.I.Source.tells (g.O.Sink.contents c.args.out.now) (g.O.Sink.contents c.call_to_end.new.out) (g.I.Source.left c.args.input.now) (g.I.Source.left c.call_to_end.new.input) c.args.at_end.now c.call_to_end.new.at_end (modules_of c.args.programs.now) c.args.which c.args.values c.args.m.now c.args.store.now c.in_ok-answer.answer (plain_heap c.call_to_end.new.heap) (hears_of g.I.Source.tells (g.I.Source.left c.args.input.now) (g.I.Source.left c.call_to_end.new.input) c.args.at_end.now c.call_to_end.new.at_end c.args.which (plain_heap c.args.store.now.heap) (plain_outcome c.in_ok-answer.answer (plain_heap c.call_to_end.new.heap)) (Wrote g.O.Sink.tells (g.O.Sink.contents c.args.out.now) (g.O.Sink.contents c.call_to_end.new.out)) c.deref.result.now c.args.values.items c.deref.ensures.value c.in_ok-answer.ensures.answer) c.args.tracer.now)

pub returns-in_err-throw-in-Err-clause-given_up : goal.returns-in_err-throw-in-Err-clause-given_up
returns-in_err-throw-in-Err-clause-given_up g c =
    if_fault _ _ _ c.from_residual-in_err-throw-in-Err.ensures.1 (thrown_stops g.T.Tracer.moves g.T.Tracer.refused g.O.Sink.tells g.I.Source.tells (g.O.Sink.contents c.args.out.now) (g.O.Sink.contents c.call_to_end.new.out) (g.I.Source.left c.args.input.now) (g.I.Source.left c.call_to_end.new.input) c.args.at_end.now c.call_to_end.new.at_end (modules_of c.args.programs.now) c.args.which c.args.values c.args.m.now c.args.store.now c.in_ok-answer.answer (plain_heap c.call_to_end.new.heap) (hears_of g.I.Source.tells (g.I.Source.left c.args.input.now) (g.I.Source.left c.call_to_end.new.input) c.args.at_end.now c.call_to_end.new.at_end c.args.which (plain_heap c.args.store.now.heap) (plain_outcome c.in_ok-answer.answer (plain_heap c.call_to_end.new.heap)) (Wrote g.O.Sink.tells (g.O.Sink.contents c.args.out.now) (g.O.Sink.contents c.call_to_end.new.out)) c.deref.result.now c.args.values.items c.deref.ensures.value c.in_ok-answer.ensures.answer) c.args.tracer.now c.throw.new.tracer c.in-Err.raised (record c.args.store.now { heap = c.call_to_end.new.heap }) c.in-Err.is (raised_keeps c.args.store.now c.call_to_end.new.heap c.in_ok-answer.answer c.in-Err.raised c.in-Err.is c.in_ok-answer.ensures.raised) c.in_err-throw-in-Err.ensures.given_up)

pub returns-in_ok-throw-in-Err-clause-calls : goal.returns-in_ok-throw-in-Err-clause-calls
returns-in_ok-throw-in-Err-clause-calls g c = let p = c.in_ok-throw-in-Err.ensures.ok in calls_taken g.T.Tracer.moves g.T.Tracer.refused c.args.tracer.now c.throw.new.tracer p.events p.has_told

pub returns-in_err-throw-in-Err-clause-calls : goal.returns-in_err-throw-in-Err-clause-calls
returns-in_err-throw-in-Err-clause-calls g c = let p = c.in_err-throw-in-Err.ensures.given_up in calls_some g.T.Tracer.moves g.T.Tracer.refused c.args.tracer.now c.throw.new.tracer p.events p.has_told
