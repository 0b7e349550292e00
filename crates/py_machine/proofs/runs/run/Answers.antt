use Rattle.std.proofs.Common.{List, ap, sym}
use Rattle.cov_event.specs.Moves.{Takes}
use Rattle.py_value.specs.Plain.{PlainValue}
use Rattle.py_value.specs.View.{plains}
use Rattle.py_builtins.specs.declared.fault.RunFault.TheVariants.{NoMemory}
use Rattle.py_builtins.specs.Inputs.{Wrote}
use Rattle.py_code.specs.Loaded.{modules_of}
use Rattle.py_code.specs.Machine.{outermost, follows}
use Rattle.py_code.specs.Programs.{script}
use Rattle.py_code.specs.Slots.{by_slots}
use Rattle.py_instructions.specs.View.{effects_of}
use Rattle.py_world.specs.Stores.{world_of}
use Rattle.py_machine.proofs.Errs.{if_err, if_fault, memory_not_read, memory_not_write, passed}
use Rattle.py_machine.proofs.AtOnce.{ran_as}
use Rattle.py_machine.proofs.Fitted.{run_fits}
use Rattle.py_machine.proofs.StopsCalls.{run_stops}
use Rattle.py_machine.proofs.StopsRuns.{stops_as, stops_after_events}
use Rattle.py_machine.proofs.Whole.{is_run, ran_over, script_unit}
use Rattle.py_machine.proofs.runs.run.Goals as goal

pub begin-requires-clause-unit : goal.begin-requires-clause-unit
begin-requires-clause-unit g c = script_unit (modules_of c.args.programs.now) c.requires.some c.are_valid.ensures

pub returns-clause-ok : goal.returns-clause-ok
returns-clause-ok g c =
    is_run g.I.Source.tells (g.I.Source.left c.args.input.now) (g.I.Source.left c.begin.new.input) (λ es. Takes g.T.Tracer.moves c.args.tracer.now es c.begin.new.tracer) (Wrote g.O.Sink.tells (g.O.Sink.contents c.args.out.now) (g.O.Sink.contents c.begin.new.out)) (modules_of c.args.programs.now) c.args.store.now c.begin.new.store c.args.budget c.in_ok-ended.ended.steps c.saturating_sub-steps.result c.in_ok-ended.ended.ending c.in_ok-outcome.outcome
    (ran_as g.I.Source.tells (g.I.Source.left c.args.input.now) (g.I.Source.left c.begin.new.input) _ _ _ _ c.in_ok-ended.ended.ending c.in_ok-ended.ended.steps c.begin.new.store
    (λ o. ap (λ (vs : List PlainValue). follows (by_slots (modules_of c.args.programs.now)) (modules_of c.args.programs.now) (outermost (by_slots (modules_of c.args.programs.now)) (modules_of c.args.programs.now) script vs c.args.budget (effects_of c.args.store.now o))) (sym (ap plains c.new.ensures.items)))
    c.in_ok-ended.ensures.ok)
    c.in_ok-outcome.ensures c.saturating_sub-steps.ensures

pub returns-clause-fits : goal.returns-clause-fits
returns-clause-fits g c =
    run_fits (modules_of c.args.programs.now) c.are_valid.ensures g.I.Source.tells (g.I.Source.left c.args.input.now) (g.I.Source.left c.begin.new.input) (λ es. Takes g.T.Tracer.moves c.args.tracer.now es c.begin.new.tracer) (Wrote g.O.Sink.tells (g.O.Sink.contents c.args.out.now) (g.O.Sink.contents c.begin.new.out)) (world_of c.args.store.now) (world_of c.begin.new.store) c.args.budget
    (record { outcome = c.in_ok-outcome.outcome; steps = c.saturating_sub-steps.result }) (returns-clause-ok g c)

pub returns-in_err-ended-clause-given_up : goal.returns-in_err-ended-clause-given_up
returns-in_err-ended-clause-given_up g c =
    if_fault _ _ _ c.from_residual.ensures.1 (run_stops _ g.O.Sink.tells (g.O.Sink.contents c.args.out.now) (g.O.Sink.contents c.begin.new.out) (modules_of c.args.programs.now) c.args.store.now c.args.budget g.I.Source.tells (g.I.Source.left c.args.input.now) (g.I.Source.left c.begin.new.input)
    (stops_as g.I.Source.tells (g.I.Source.left c.args.input.now) (g.I.Source.left c.begin.new.input) _ g.O.Sink.tells (g.O.Sink.contents c.args.out.now) (g.O.Sink.contents c.begin.new.out) c.args.store.now c.args.store.now _ _
    (λ o. ap (λ (vs : List PlainValue). follows (by_slots (modules_of c.args.programs.now)) (modules_of c.args.programs.now) (outermost (by_slots (modules_of c.args.programs.now)) (modules_of c.args.programs.now) script vs c.args.budget (effects_of c.args.store.now o))) (sym (ap plains c.new.ensures.items)))
    c.in_err-ended.ensures.given_up))

pub returns-in_err-outcome-clause-given_up : goal.returns-in_err-outcome-clause-given_up
returns-in_err-outcome-clause-given_up g c =
    if_fault _ _ _ c.from_residual-in_err-outcome.ensures.1 (run_stops _ g.O.Sink.tells (g.O.Sink.contents c.args.out.now) (g.O.Sink.contents c.begin.new.out) (modules_of c.args.programs.now) c.args.store.now c.args.budget g.I.Source.tells (g.I.Source.left c.args.input.now) (g.I.Source.left c.begin.new.input)
    (stops_after_events g.T.Tracer.moves g.T.Tracer.refused NoMemory c.args.tracer.now c.begin.new.tracer g.O.Sink.tells (g.O.Sink.contents c.args.out.now) (g.O.Sink.contents c.begin.new.out) g.I.Source.tells (g.I.Source.left c.args.input.now) (g.I.Source.left c.begin.new.input) _ c.in_ok-ended.ended.ending c.in_ok-ended.ended.steps c.args.store.now c.begin.new.store
    (ran_as g.I.Source.tells (g.I.Source.left c.args.input.now) (g.I.Source.left c.begin.new.input) _ _ _ _ c.in_ok-ended.ended.ending c.in_ok-ended.ended.steps c.begin.new.store
    (λ o. ap (λ (vs : List PlainValue). follows (by_slots (modules_of c.args.programs.now)) (modules_of c.args.programs.now) (outermost (by_slots (modules_of c.args.programs.now)) (modules_of c.args.programs.now) script vs c.args.budget (effects_of c.args.store.now o))) (sym (ap plains c.new.ensures.items)))
    c.in_ok-ended.ensures.ok)))

pub into_outcome-requires : goal.into_outcome-requires
into_outcome-requires g c =
    ran_over g.I.Source.tells (g.I.Source.left c.args.input.now) (g.I.Source.left c.begin.new.input) (λ es. Takes g.T.Tracer.moves c.args.tracer.now es c.begin.new.tracer) (Wrote g.O.Sink.tells (g.O.Sink.contents c.args.out.now) (g.O.Sink.contents c.begin.new.out)) (modules_of c.args.programs.now) c.requires.some c.are_valid.ensures c.args.store.now c.begin.new.store c.args.budget c.in_ok-ended.ended.steps c.in_ok-ended.ended.ending
    (ran_as g.I.Source.tells (g.I.Source.left c.args.input.now) (g.I.Source.left c.begin.new.input) _ _ _ _ c.in_ok-ended.ended.ending c.in_ok-ended.ended.steps c.begin.new.store
    (λ o. ap (λ (vs : List PlainValue). follows (by_slots (modules_of c.args.programs.now)) (modules_of c.args.programs.now) (outermost (by_slots (modules_of c.args.programs.now)) (modules_of c.args.programs.now) script vs c.args.budget (effects_of c.args.store.now o))) (sym (ap plains c.new.ensures.items)))
    c.in_ok-ended.ensures.ok)

pub returns-in_err-ended-clause-ok : goal.returns-in_err-ended-clause-ok
returns-in_err-ended-clause-ok g c = if_err _ _ c.from_residual.ensures.0

pub returns-in_err-ended-clause-fits : goal.returns-in_err-ended-clause-fits
returns-in_err-ended-clause-fits g c = if_err _ _ c.from_residual.ensures.0

pub returns-in_err-ended-clause-read_fault : goal.returns-in_err-ended-clause-read_fault
returns-in_err-ended-clause-read_fault g c = passed _ _ _ _ c.from_residual.ensures.1 c.in_err-ended.ensures.read_fault

pub returns-in_err-ended-clause-write_fault : goal.returns-in_err-ended-clause-write_fault
returns-in_err-ended-clause-write_fault g c = passed _ _ _ _ c.from_residual.ensures.1 c.in_err-ended.ensures.write_fault

pub returns-in_err-ended-clause-calls : goal.returns-in_err-ended-clause-calls
returns-in_err-ended-clause-calls g c = c.in_err-ended.ensures.calls

pub returns-in_err-ended-clause-reads : goal.returns-in_err-ended-clause-reads
returns-in_err-ended-clause-reads g c = c.in_err-ended.ensures.reads

pub returns-in_err-ended-clause-writes : goal.returns-in_err-ended-clause-writes
returns-in_err-ended-clause-writes g c = c.in_err-ended.ensures.writes

pub returns-in_err-outcome-clause-ok : goal.returns-in_err-outcome-clause-ok
returns-in_err-outcome-clause-ok g c = if_err _ _ c.from_residual-in_err-outcome.ensures.0

pub returns-in_err-outcome-clause-fits : goal.returns-in_err-outcome-clause-fits
returns-in_err-outcome-clause-fits g c = if_err _ _ c.from_residual-in_err-outcome.ensures.0

pub returns-in_err-outcome-clause-read_fault : goal.returns-in_err-outcome-clause-read_fault
returns-in_err-outcome-clause-read_fault g c = memory_not_read _ _ c.from_residual-in_err-outcome.ensures.1

pub returns-in_err-outcome-clause-write_fault : goal.returns-in_err-outcome-clause-write_fault
returns-in_err-outcome-clause-write_fault g c = memory_not_write _ _ c.from_residual-in_err-outcome.ensures.1

pub returns-in_err-outcome-clause-calls : goal.returns-in_err-outcome-clause-calls
returns-in_err-outcome-clause-calls g c = c.in_ok-ended.ensures.calls

pub returns-in_err-outcome-clause-reads : goal.returns-in_err-outcome-clause-reads
returns-in_err-outcome-clause-reads g c = c.in_ok-ended.ensures.reads

pub returns-in_err-outcome-clause-writes : goal.returns-in_err-outcome-clause-writes
returns-in_err-outcome-clause-writes g c = c.in_ok-ended.ensures.writes

pub returns-clause-calls : goal.returns-clause-calls
returns-clause-calls g c = c.in_ok-ended.ensures.calls

pub returns-clause-reads : goal.returns-clause-reads
returns-clause-reads g c = c.in_ok-ended.ensures.reads

pub returns-clause-writes : goal.returns-clause-writes
returns-clause-writes g c = c.in_ok-ended.ensures.writes

pub returns-clause-given_up : goal.returns-clause-given_up
returns-clause-given_up g c = tt

pub returns-clause-read_fault : goal.returns-clause-read_fault
returns-clause-read_fault g c = λ e. absurd cc

pub returns-clause-write_fault : goal.returns-clause-write_fault
returns-clause-write_fault g c = λ e. absurd cc
