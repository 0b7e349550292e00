use Rattle.std.proofs.Common.{◌-◌, arith}
use Rattle.cov_event.specs.declared.event.Event.TheVariants.{Call as Called}
use Rattle.py_value.specs.View.{plains}
use Rattle.py_builtins.specs.declared.fault.RunFault.TheVariants.{NoMemory}
use Rattle.py_code.specs.Loaded.{modules_of}
use Rattle.py_machine.proofs.Errs.{if_err, if_fault, memory_not_read, memory_not_write, passed, same}
use Rattle.py_machine.proofs.Begins.{spent_first, first_goes, ran_after}
use Rattle.py_machine.proofs.TracerCalls.{calls_none, calls_one, calls_refused, calls_then}
use Rattle.py_machine.proofs.StopsCalls.{outermost_first, outermost_called}
use Rattle.py_machine.proofs.StopsRuns.{stops_first, stops_refused, stops_after}
use Rattle.py_machine.proofs.runs.begin.Goals as goal

pub returns-then-budget-eq0-clause-ok : goal.returns-then-budget-eq0-clause-ok
returns-then-budget-eq0-clause-ok g c =
    spent_first g.T.Tracer.moves c.args.tracer.now g.O.Sink.tells (g.O.Sink.contents c.args.out.now) g.I.Source.tells (g.I.Source.left c.args.input.now) (modules_of c.args.programs.now) c.args.code (plains c.args.values.items) c.args.store.now c.args.budget c.if-budget-eq0.true

pub returns-clause-ok : goal.returns-clause-ok
returns-clause-ok g c =
    ran_after g.T.Tracer.moves c.args.tracer.now c.event.new.self c.go_on.new.tracer (Called c.args.code) _ g.I.Source.tells (g.I.Source.left c.args.input.now) (g.I.Source.left c.go_on.new.input) _ _ c.in_ok-ending.ending c.go_on.new.m.steps c.go_on.new.store c.in_ok-event.ensures.moved
    (first_goes (modules_of c.args.programs.now) c.args.code (plains c.args.values.items) c.in_ok-m.m c.args.store.now c.enter.new.self (c.args.budget - 1) c.args.budget (omega arith) c.in_ok-m.ensures.frame c.in_ok-m.ensures.start.callers c.in_ok-m.ensures.steps c.in_ok-enter.ensures)
    c.in_ok-ending.ensures.ok

pub returns-in_err-m-clause-given_up : goal.returns-in_err-m-clause-given_up
returns-in_err-m-clause-given_up g c = if_fault _ _ _ c.from_residual.ensures.1 (stops_first g.T.Tracer.moves g.T.Tracer.refused NoMemory c.args.tracer.now g.O.Sink.tells (g.O.Sink.contents c.args.out.now) g.I.Source.tells (g.I.Source.left c.args.input.now) _ c.args.store.now (outermost_first (modules_of c.args.programs.now) c.args.code (plains c.args.values.items) c.args.budget c.args.store.now))

pub returns-in_err-enter-clause-given_up : goal.returns-in_err-enter-clause-given_up
returns-in_err-enter-clause-given_up g c = if_fault _ _ _ c.from_residual-in_err-enter.ensures.1 (stops_first g.T.Tracer.moves g.T.Tracer.refused NoMemory c.args.tracer.now g.O.Sink.tells (g.O.Sink.contents c.args.out.now) g.I.Source.tells (g.I.Source.left c.args.input.now) _ c.args.store.now (outermost_first (modules_of c.args.programs.now) c.args.code (plains c.args.values.items) c.args.budget c.args.store.now))

pub returns-in_err-event-clause-given_up : goal.returns-in_err-event-clause-given_up
returns-in_err-event-clause-given_up g c = if_fault _ _ _ c.from_residual-in_err-event.ensures.1 (stops_refused g.T.Tracer.moves g.T.Tracer.refused c.args.tracer.now c.event.new.self (Called c.args.code) g.O.Sink.tells (g.O.Sink.contents c.args.out.now) g.I.Source.tells (g.I.Source.left c.args.input.now) _ c.args.store.now c.in_err-event.ensures.refused (outermost_called (modules_of c.args.programs.now) c.args.code (plains c.args.values.items) (c.args.budget - 1) c.args.budget (omega arith) c.args.store.now))

pub returns-in_err-ending-clause-given_up : goal.returns-in_err-ending-clause-given_up
returns-in_err-ending-clause-given_up g c =
    if_fault _ _ _ c.from_residual-in_err-ending.ensures.1 (stops_after g.T.Tracer.moves g.T.Tracer.refused _ c.args.tracer.now c.event.new.self c.go_on.new.tracer (Called c.args.code) g.O.Sink.tells (g.O.Sink.contents c.args.out.now) (g.O.Sink.contents c.go_on.new.out) g.I.Source.tells (g.I.Source.left c.args.input.now) (g.I.Source.left c.go_on.new.input) _ _ c.args.store.now c.enter.new.self c.in_ok-event.ensures.moved
    (first_goes (modules_of c.args.programs.now) c.args.code (plains c.args.values.items) c.in_ok-m.m c.args.store.now c.enter.new.self (c.args.budget - 1) c.args.budget (omega arith) c.in_ok-m.ensures.frame c.in_ok-m.ensures.start.callers c.in_ok-m.ensures.steps c.in_ok-enter.ensures)
    c.in_err-ending.ensures.given_up)

pub returns-then-budget-eq0-clause-calls : goal.returns-then-budget-eq0-clause-calls
returns-then-budget-eq0-clause-calls g c = calls_none g.T.Tracer.moves g.T.Tracer.refused c.args.tracer.now

pub returns-in_err-m-clause-calls : goal.returns-in_err-m-clause-calls
returns-in_err-m-clause-calls g c = calls_none g.T.Tracer.moves g.T.Tracer.refused c.args.tracer.now

pub returns-in_err-enter-clause-calls : goal.returns-in_err-enter-clause-calls
returns-in_err-enter-clause-calls g c = calls_none g.T.Tracer.moves g.T.Tracer.refused c.args.tracer.now

pub returns-in_err-event-clause-calls : goal.returns-in_err-event-clause-calls
returns-in_err-event-clause-calls g c = calls_refused g.T.Tracer.moves g.T.Tracer.refused c.args.tracer.now c.event.new.self (Called c.args.code) c.in_err-event.ensures.refused

pub returns-in_err-ending-clause-calls : goal.returns-in_err-ending-clause-calls
returns-in_err-ending-clause-calls g c = calls_then g.T.Tracer.moves g.T.Tracer.refused c.args.tracer.now c.event.new.self c.go_on.new.tracer (calls_one g.T.Tracer.moves g.T.Tracer.refused c.args.tracer.now c.event.new.self (Called c.args.code) c.in_ok-event.ensures.moved) c.in_err-ending.ensures.calls

pub returns-clause-calls : goal.returns-clause-calls
returns-clause-calls g c = calls_then g.T.Tracer.moves g.T.Tracer.refused c.args.tracer.now c.event.new.self c.go_on.new.tracer (calls_one g.T.Tracer.moves g.T.Tracer.refused c.args.tracer.now c.event.new.self (Called c.args.code) c.in_ok-event.ensures.moved) c.in_ok-ending.ensures.calls

pub returns-in_err-m-clause-ok : goal.returns-in_err-m-clause-ok
returns-in_err-m-clause-ok g c = if_err _ _ c.from_residual.ensures.0

pub returns-in_err-m-clause-read_fault : goal.returns-in_err-m-clause-read_fault
returns-in_err-m-clause-read_fault g c = memory_not_read _ _ c.from_residual.ensures.1

pub returns-in_err-m-clause-write_fault : goal.returns-in_err-m-clause-write_fault
returns-in_err-m-clause-write_fault g c = memory_not_write _ _ c.from_residual.ensures.1

pub returns-in_err-m-clause-reads : goal.returns-in_err-m-clause-reads
returns-in_err-m-clause-reads g c = same (g.I.Source.faults c.args.input.now)

pub returns-in_err-m-clause-writes : goal.returns-in_err-m-clause-writes
returns-in_err-m-clause-writes g c = same (g.O.Sink.faults c.args.out.now)

pub returns-in_err-enter-clause-ok : goal.returns-in_err-enter-clause-ok
returns-in_err-enter-clause-ok g c = if_err _ _ c.from_residual-in_err-enter.ensures.0

pub returns-in_err-enter-clause-read_fault : goal.returns-in_err-enter-clause-read_fault
returns-in_err-enter-clause-read_fault g c = memory_not_read _ _ c.from_residual-in_err-enter.ensures.1

pub returns-in_err-enter-clause-write_fault : goal.returns-in_err-enter-clause-write_fault
returns-in_err-enter-clause-write_fault g c = memory_not_write _ _ c.from_residual-in_err-enter.ensures.1

pub returns-in_err-enter-clause-reads : goal.returns-in_err-enter-clause-reads
returns-in_err-enter-clause-reads g c = same (g.I.Source.faults c.args.input.now)

pub returns-in_err-enter-clause-writes : goal.returns-in_err-enter-clause-writes
returns-in_err-enter-clause-writes g c = same (g.O.Sink.faults c.args.out.now)

pub returns-in_err-event-clause-ok : goal.returns-in_err-event-clause-ok
returns-in_err-event-clause-ok g c = if_err _ _ c.from_residual-in_err-event.ensures.0

pub returns-in_err-event-clause-read_fault : goal.returns-in_err-event-clause-read_fault
returns-in_err-event-clause-read_fault g c = memory_not_read _ _ c.from_residual-in_err-event.ensures.1

pub returns-in_err-event-clause-write_fault : goal.returns-in_err-event-clause-write_fault
returns-in_err-event-clause-write_fault g c = memory_not_write _ _ c.from_residual-in_err-event.ensures.1

pub returns-in_err-event-clause-reads : goal.returns-in_err-event-clause-reads
returns-in_err-event-clause-reads g c = same (g.I.Source.faults c.args.input.now)

pub returns-in_err-event-clause-writes : goal.returns-in_err-event-clause-writes
returns-in_err-event-clause-writes g c = same (g.O.Sink.faults c.args.out.now)

pub returns-in_err-ending-clause-ok : goal.returns-in_err-ending-clause-ok
returns-in_err-ending-clause-ok g c = if_err _ _ c.from_residual-in_err-ending.ensures.0

pub returns-in_err-ending-clause-read_fault : goal.returns-in_err-ending-clause-read_fault
returns-in_err-ending-clause-read_fault g c = passed _ _ _ _ c.from_residual-in_err-ending.ensures.1 c.in_err-ending.ensures.read_fault

pub returns-in_err-ending-clause-write_fault : goal.returns-in_err-ending-clause-write_fault
returns-in_err-ending-clause-write_fault g c = passed _ _ _ _ c.from_residual-in_err-ending.ensures.1 c.in_err-ending.ensures.write_fault

pub returns-in_err-ending-clause-reads : goal.returns-in_err-ending-clause-reads
returns-in_err-ending-clause-reads g c = c.in_err-ending.ensures.reads

pub returns-in_err-ending-clause-writes : goal.returns-in_err-ending-clause-writes
returns-in_err-ending-clause-writes g c = c.in_err-ending.ensures.writes

pub returns-clause-reads : goal.returns-clause-reads
returns-clause-reads g c = c.in_ok-ending.ensures.reads

pub returns-clause-writes : goal.returns-clause-writes
returns-clause-writes g c = c.in_ok-ending.ensures.writes

pub returns-clause-given_up : goal.returns-clause-given_up
returns-clause-given_up g c = tt

pub returns-clause-read_fault : goal.returns-clause-read_fault
returns-clause-read_fault g c = λ e. absurd cc

pub returns-clause-write_fault : goal.returns-clause-write_fault
returns-clause-write_fault g c = λ e. absurd cc

pub returns-then-budget-eq0-clause-reads : goal.returns-then-budget-eq0-clause-reads
returns-then-budget-eq0-clause-reads g c = same (g.I.Source.faults c.args.input.now)

pub returns-then-budget-eq0-clause-writes : goal.returns-then-budget-eq0-clause-writes
returns-then-budget-eq0-clause-writes g c = same (g.O.Sink.faults c.args.out.now)

pub returns-then-budget-eq0-clause-given_up : goal.returns-then-budget-eq0-clause-given_up
returns-then-budget-eq0-clause-given_up g c = tt

pub returns-then-budget-eq0-clause-read_fault : goal.returns-then-budget-eq0-clause-read_fault
returns-then-budget-eq0-clause-read_fault g c = λ e. absurd cc

pub returns-then-budget-eq0-clause-write_fault : goal.returns-then-budget-eq0-clause-write_fault
returns-then-budget-eq0-clause-write_fault g c = λ e. absurd cc
