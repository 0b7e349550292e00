use Rattle.std.proofs.Common.{ap}
use Rattle.std.specs.Str.{chars}
use Rattle.cov_event.specs.Moves.{Takes}
use Rattle.py_value.specs.View.{plains}
use Rattle.py_builtins.specs.declared.fault.RunFault.TheVariants.{NoMemory}
use Rattle.py_builtins.specs.Inputs.{Wrote}
use Rattle.py_code.specs.Loaded.{modules_of}
use Rattle.py_code.specs.Machine.{outer_call, follows}
use Rattle.py_code.specs.Slots.{by_slots}
use Rattle.py_instructions.specs.View.{effects_of}
use Rattle.py_machine.specs.Runs.{request}
use Rattle.py_machine.specs.Told.{TakesSome}
use Rattle.py_world.specs.Stores.{world_of}
use Rattle.py_machine.proofs.Errs.{if_fault}
use Rattle.py_machine.proofs.AtOnce.{ran_as, reach_is}
use Rattle.py_machine.proofs.Fitted.{call_fits}
use Rattle.py_machine.proofs.TracerCalls.{calls_none}
use Rattle.py_machine.proofs.StopsCalls.{call_stops, calling_first}
use Rattle.py_machine.proofs.StopsRuns.{stops_as, stops_after_events, stops_first}
use Rattle.py_machine.proofs.Whole.{is_call, called_over}
use Rattle.py_machine.proofs.calls.call.Goals as goal

pub returns-clause-ok : goal.returns-clause-ok
returns-clause-ok g c =
    is_call g.I.Source.tells (g.I.Source.left c.args.input.now) (g.I.Source.left c.finish.new.input) (λ es. Takes g.T.Tracer.moves c.args.tracer.now es c.finish.new.tracer) (Wrote g.O.Sink.tells (g.O.Sink.contents c.args.out.now) (g.O.Sink.contents c.finish.new.out)) (modules_of c.args.programs.now) c.args.store.now c.finish.new.store (request c.args.«module» (chars c.args.function.now) (plains c.args.args.now)) c.args.budget c.in_ok-ended.ended.steps c.saturating_sub-steps.result c.in_ok-ended.ended.ending c.in_ok-called.called
    (ran_as g.I.Source.tells (g.I.Source.left c.args.input.now) (g.I.Source.left c.finish.new.input) _ _ _ _ c.in_ok-ended.ended.ending c.in_ok-ended.ended.steps c.finish.new.store (λ o. ap (λ x. follows (by_slots (modules_of c.args.programs.now)) (modules_of c.args.programs.now) (outer_call (by_slots (modules_of c.args.programs.now)) (modules_of c.args.programs.now) x c.args.budget (effects_of c.args.store.now o))) (reach_is (modules_of c.args.programs.now) c.args.store.now c.args.«module» c.in_ok-name.name (chars c.args.function.now) (plains c.in_ok-values.values.items) (plains c.args.args.now) c.in_ok-reach.reach c.in_ok-name.ensures c.in_ok-values.ensures c.in_ok-reach.ensures.leads o)) c.in_ok-ended.ensures.ok)
    c.in_ok-called.ensures c.saturating_sub-steps.ensures

pub returns-clause-fits : goal.returns-clause-fits
returns-clause-fits g c =
    call_fits (modules_of c.args.programs.now) c.are_valid.ensures g.I.Source.tells (g.I.Source.left c.args.input.now) (g.I.Source.left c.finish.new.input) (λ es. Takes g.T.Tracer.moves c.args.tracer.now es c.finish.new.tracer) (Wrote g.O.Sink.tells (g.O.Sink.contents c.args.out.now) (g.O.Sink.contents c.finish.new.out)) (world_of c.args.store.now) (world_of c.finish.new.store) c.args.budget
    (request c.args.«module» (chars c.args.function.now) (plains c.args.args.now)) (record { called = c.in_ok-called.called; steps = c.saturating_sub-steps.result }) (returns-clause-ok g c)

pub returns-in_err-name-clause-given_up : goal.returns-in_err-name-clause-given_up
returns-in_err-name-clause-given_up g c =
    if_fault _ _ _ c.from_residual.ensures.1 (call_stops (λ es. TakesSome g.T.Tracer.moves g.T.Tracer.refused c.args.tracer.now es c.args.tracer.now) g.O.Sink.tells (g.O.Sink.contents c.args.out.now) (g.O.Sink.contents c.args.out.now) (modules_of c.args.programs.now) c.args.store.now (request c.args.«module» (chars c.args.function.now) (plains c.args.args.now)) c.args.budget g.I.Source.tells (g.I.Source.left c.args.input.now) (g.I.Source.left c.args.input.now)
    (stops_first g.T.Tracer.moves g.T.Tracer.refused NoMemory c.args.tracer.now g.O.Sink.tells (g.O.Sink.contents c.args.out.now) g.I.Source.tells (g.I.Source.left c.args.input.now) _ c.args.store.now (calling_first (λ es. TakesSome g.T.Tracer.moves g.T.Tracer.refused c.args.tracer.now es c.args.tracer.now) g.O.Sink.tells (g.O.Sink.contents c.args.out.now) (g.O.Sink.contents c.args.out.now) (modules_of c.args.programs.now) c.args.store.now (request c.args.«module» (chars c.args.function.now) (plains c.args.args.now)) c.args.budget)))

pub returns-in_err-values-clause-given_up : goal.returns-in_err-values-clause-given_up
returns-in_err-values-clause-given_up g c =
    if_fault _ _ _ c.from_residual-in_err-values.ensures.1 (call_stops (λ es. TakesSome g.T.Tracer.moves g.T.Tracer.refused c.args.tracer.now es c.args.tracer.now) g.O.Sink.tells (g.O.Sink.contents c.args.out.now) (g.O.Sink.contents c.args.out.now) (modules_of c.args.programs.now) c.args.store.now (request c.args.«module» (chars c.args.function.now) (plains c.args.args.now)) c.args.budget g.I.Source.tells (g.I.Source.left c.args.input.now) (g.I.Source.left c.args.input.now)
    (stops_first g.T.Tracer.moves g.T.Tracer.refused NoMemory c.args.tracer.now g.O.Sink.tells (g.O.Sink.contents c.args.out.now) g.I.Source.tells (g.I.Source.left c.args.input.now) _ c.args.store.now (calling_first (λ es. TakesSome g.T.Tracer.moves g.T.Tracer.refused c.args.tracer.now es c.args.tracer.now) g.O.Sink.tells (g.O.Sink.contents c.args.out.now) (g.O.Sink.contents c.args.out.now) (modules_of c.args.programs.now) c.args.store.now (request c.args.«module» (chars c.args.function.now) (plains c.args.args.now)) c.args.budget)))

pub returns-in_err-reach-clause-given_up : goal.returns-in_err-reach-clause-given_up
returns-in_err-reach-clause-given_up g c =
    if_fault _ _ _ c.from_residual-in_err-reach.ensures.1 (call_stops (λ es. TakesSome g.T.Tracer.moves g.T.Tracer.refused c.args.tracer.now es c.args.tracer.now) g.O.Sink.tells (g.O.Sink.contents c.args.out.now) (g.O.Sink.contents c.args.out.now) (modules_of c.args.programs.now) c.args.store.now (request c.args.«module» (chars c.args.function.now) (plains c.args.args.now)) c.args.budget g.I.Source.tells (g.I.Source.left c.args.input.now) (g.I.Source.left c.args.input.now)
    (stops_first g.T.Tracer.moves g.T.Tracer.refused NoMemory c.args.tracer.now g.O.Sink.tells (g.O.Sink.contents c.args.out.now) g.I.Source.tells (g.I.Source.left c.args.input.now) _ c.args.store.now (calling_first (λ es. TakesSome g.T.Tracer.moves g.T.Tracer.refused c.args.tracer.now es c.args.tracer.now) g.O.Sink.tells (g.O.Sink.contents c.args.out.now) (g.O.Sink.contents c.args.out.now) (modules_of c.args.programs.now) c.args.store.now (request c.args.«module» (chars c.args.function.now) (plains c.args.args.now)) c.args.budget)))

pub returns-in_err-ended-clause-given_up : goal.returns-in_err-ended-clause-given_up
returns-in_err-ended-clause-given_up g c =
    if_fault _ _ _ c.from_residual-in_err-ended.ensures.1 (call_stops _ g.O.Sink.tells (g.O.Sink.contents c.args.out.now) (g.O.Sink.contents c.finish.new.out) (modules_of c.args.programs.now) c.args.store.now (request c.args.«module» (chars c.args.function.now) (plains c.args.args.now)) c.args.budget g.I.Source.tells (g.I.Source.left c.args.input.now) (g.I.Source.left c.finish.new.input)
    (stops_as g.I.Source.tells (g.I.Source.left c.args.input.now) (g.I.Source.left c.finish.new.input) _ g.O.Sink.tells (g.O.Sink.contents c.args.out.now) (g.O.Sink.contents c.finish.new.out) c.args.store.now c.args.store.now _ _ (λ o. ap (λ x. follows (by_slots (modules_of c.args.programs.now)) (modules_of c.args.programs.now) (outer_call (by_slots (modules_of c.args.programs.now)) (modules_of c.args.programs.now) x c.args.budget (effects_of c.args.store.now o))) (reach_is (modules_of c.args.programs.now) c.args.store.now c.args.«module» c.in_ok-name.name (chars c.args.function.now) (plains c.in_ok-values.values.items) (plains c.args.args.now) c.in_ok-reach.reach c.in_ok-name.ensures c.in_ok-values.ensures c.in_ok-reach.ensures.leads o)) c.in_err-ended.ensures.given_up))

pub returns-in_err-called-clause-given_up : goal.returns-in_err-called-clause-given_up
returns-in_err-called-clause-given_up g c =
    if_fault _ _ _ c.from_residual-in_err-called.ensures.1 (call_stops _ g.O.Sink.tells (g.O.Sink.contents c.args.out.now) (g.O.Sink.contents c.finish.new.out) (modules_of c.args.programs.now) c.args.store.now (request c.args.«module» (chars c.args.function.now) (plains c.args.args.now)) c.args.budget g.I.Source.tells (g.I.Source.left c.args.input.now) (g.I.Source.left c.finish.new.input)
    (stops_after_events g.T.Tracer.moves g.T.Tracer.refused NoMemory c.args.tracer.now c.finish.new.tracer g.O.Sink.tells (g.O.Sink.contents c.args.out.now) (g.O.Sink.contents c.finish.new.out) g.I.Source.tells (g.I.Source.left c.args.input.now) (g.I.Source.left c.finish.new.input) _ c.in_ok-ended.ended.ending c.in_ok-ended.ended.steps c.args.store.now c.finish.new.store
    (ran_as g.I.Source.tells (g.I.Source.left c.args.input.now) (g.I.Source.left c.finish.new.input) _ _ _ _ c.in_ok-ended.ended.ending c.in_ok-ended.ended.steps c.finish.new.store (λ o. ap (λ x. follows (by_slots (modules_of c.args.programs.now)) (modules_of c.args.programs.now) (outer_call (by_slots (modules_of c.args.programs.now)) (modules_of c.args.programs.now) x c.args.budget (effects_of c.args.store.now o))) (reach_is (modules_of c.args.programs.now) c.args.store.now c.args.«module» c.in_ok-name.name (chars c.args.function.now) (plains c.in_ok-values.values.items) (plains c.args.args.now) c.in_ok-reach.reach c.in_ok-name.ensures c.in_ok-values.ensures c.in_ok-reach.ensures.leads o)) c.in_ok-ended.ensures.ok)))

pub returns-in_err-name-clause-calls : goal.returns-in_err-name-clause-calls
returns-in_err-name-clause-calls g c = calls_none g.T.Tracer.moves g.T.Tracer.refused c.args.tracer.now

pub returns-in_err-values-clause-calls : goal.returns-in_err-values-clause-calls
returns-in_err-values-clause-calls g c = calls_none g.T.Tracer.moves g.T.Tracer.refused c.args.tracer.now

pub returns-in_err-reach-clause-calls : goal.returns-in_err-reach-clause-calls
returns-in_err-reach-clause-calls g c = calls_none g.T.Tracer.moves g.T.Tracer.refused c.args.tracer.now

pub into_called-requires : goal.into_called-requires
into_called-requires g c =
    called_over g.I.Source.tells (g.I.Source.left c.args.input.now) (g.I.Source.left c.finish.new.input) (λ es. Takes g.T.Tracer.moves c.args.tracer.now es c.finish.new.tracer) (Wrote g.O.Sink.tells (g.O.Sink.contents c.args.out.now) (g.O.Sink.contents c.finish.new.out)) (modules_of c.args.programs.now) c.requires.some c.are_valid.ensures c.args.store.now c.finish.new.store (request c.args.«module» (chars c.args.function.now) (plains c.args.args.now)) c.args.budget c.in_ok-ended.ended.steps c.in_ok-ended.ended.ending
    (ran_as g.I.Source.tells (g.I.Source.left c.args.input.now) (g.I.Source.left c.finish.new.input) _ _ _ _ c.in_ok-ended.ended.ending c.in_ok-ended.ended.steps c.finish.new.store (λ o. ap (λ x. follows (by_slots (modules_of c.args.programs.now)) (modules_of c.args.programs.now) (outer_call (by_slots (modules_of c.args.programs.now)) (modules_of c.args.programs.now) x c.args.budget (effects_of c.args.store.now o))) (reach_is (modules_of c.args.programs.now) c.args.store.now c.args.«module» c.in_ok-name.name (chars c.args.function.now) (plains c.in_ok-values.values.items) (plains c.args.args.now) c.in_ok-reach.reach c.in_ok-name.ensures c.in_ok-values.ensures c.in_ok-reach.ensures.leads o)) c.in_ok-ended.ensures.ok)
