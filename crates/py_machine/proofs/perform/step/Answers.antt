use Rattle.std.proofs.Common.{zero, refl}
use Rattle.py_code.specs.Loaded.{modules_of}
use Rattle.py_code.specs.Slots.{by_slots}
use Rattle.py_instructions.specs.View.{seen}
use Rattle.py_machine.proofs.Errs.{if_err, if_fault, memory_not_read, memory_not_write, passed, same}
use Rattle.py_machine.proofs.TracerCalls.{calls_none}
use Rattle.py_machine.proofs.GivesUp.{gives_up_first}
use Rattle.py_machine.proofs.Grows.{moves_grow}
use Rattle.py_machine.proofs.Performs.{step_as}
use Rattle.py_machine.proofs.Stops.{only_given_up, broken_as}
use Rattle.py_machine.proofs.perform.step.Goals as goal

pub returns-clause-ok : goal.returns-clause-ok
returns-clause-ok g c =
    let next = c.in_ok-turn.ensures in
    record {
      mid = next.mid;
      kept = next.kept;
      ahead = next.ahead;
      holds = step_as _ _ _ _ _ _ _ _ _ _ c.in_ok-perform.field-0 next.turn c.in_ok-perform.ensures.ok;
    }

pub returns-in_err-turn-clause-given_up : goal.returns-in_err-turn-clause-given_up
returns-in_err-turn-clause-given_up g c =
    if_fault _ _ _ c.from_residual.ensures.1 (record {
      mid = c.args.m.now;
      kept = c.args.store.now;
      ahead = λ o. (zero, refl);
      holds = only_given_up _ g.O.Sink.tells (g.O.Sink.contents c.args.out.now) c.args.store.now _ g.I.Source.tells c.args.at_end.now (g.I.Source.left c.args.input.now) c.requires.end
          (gives_up_first g.T.Tracer.moves g.T.Tracer.refused c.args.tracer.now c.args.store.now _
          (λ o. moves_grow (by_slots (modules_of c.args.programs.now)) (modules_of c.args.programs.now) (seen c.args.m.now c.args.store.now o)));
    })

pub returns-in_err-turn-clause-calls : goal.returns-in_err-turn-clause-calls
returns-in_err-turn-clause-calls g c = calls_none g.T.Tracer.moves g.T.Tracer.refused c.args.tracer.now

pub returns-in_err-perform-clause-given_up : goal.returns-in_err-perform-clause-given_up
returns-in_err-perform-clause-given_up g c =
    let next = c.in_ok-turn.ensures in
    if_fault _ _ _ c.from_residual-in_err-perform.ensures.1 (record {
      mid = next.mid;
      kept = next.kept;
      ahead = next.ahead;
      holds = broken_as _ _ _ _ _ _ _ _ next.kept c.next_turn.new.store _ _ next.turn c.in_err-perform.ensures.given_up;
    })

pub returns-in_err-turn-clause-ok : goal.returns-in_err-turn-clause-ok
returns-in_err-turn-clause-ok g c = if_err _ _ c.from_residual.ensures.0

pub returns-in_err-turn-clause-read_fault : goal.returns-in_err-turn-clause-read_fault
returns-in_err-turn-clause-read_fault g c = memory_not_read _ _ c.from_residual.ensures.1

pub returns-in_err-turn-clause-write_fault : goal.returns-in_err-turn-clause-write_fault
returns-in_err-turn-clause-write_fault g c = memory_not_write _ _ c.from_residual.ensures.1

pub returns-in_err-turn-clause-unread : goal.returns-in_err-turn-clause-unread
returns-in_err-turn-clause-unread g c = λ _. refl

pub returns-in_err-turn-clause-reads : goal.returns-in_err-turn-clause-reads
returns-in_err-turn-clause-reads g c = same (g.I.Source.faults c.args.input.now)

pub returns-in_err-turn-clause-writes : goal.returns-in_err-turn-clause-writes
returns-in_err-turn-clause-writes g c = same (g.O.Sink.faults c.args.out.now)

pub returns-in_err-perform-clause-ok : goal.returns-in_err-perform-clause-ok
returns-in_err-perform-clause-ok g c = if_err _ _ c.from_residual-in_err-perform.ensures.0

pub returns-in_err-perform-clause-read_fault : goal.returns-in_err-perform-clause-read_fault
returns-in_err-perform-clause-read_fault g c = passed _ _ _ _ c.from_residual-in_err-perform.ensures.1 c.in_err-perform.ensures.read_fault

pub returns-in_err-perform-clause-write_fault : goal.returns-in_err-perform-clause-write_fault
returns-in_err-perform-clause-write_fault g c = passed _ _ _ _ c.from_residual-in_err-perform.ensures.1 c.in_err-perform.ensures.write_fault

pub returns-in_err-perform-clause-calls : goal.returns-in_err-perform-clause-calls
returns-in_err-perform-clause-calls g c = c.in_err-perform.ensures.calls

pub returns-in_err-perform-clause-reads : goal.returns-in_err-perform-clause-reads
returns-in_err-perform-clause-reads g c = c.in_err-perform.ensures.reads

pub returns-in_err-perform-clause-writes : goal.returns-in_err-perform-clause-writes
returns-in_err-perform-clause-writes g c = c.in_err-perform.ensures.writes

pub returns-in_err-perform-clause-unread : goal.returns-in_err-perform-clause-unread
returns-in_err-perform-clause-unread g c = c.in_err-perform.ensures.unread

pub returns-clause-calls : goal.returns-clause-calls
returns-clause-calls g c = c.in_ok-perform.ensures.calls

pub returns-clause-reads : goal.returns-clause-reads
returns-clause-reads g c = c.in_ok-perform.ensures.reads

pub returns-clause-writes : goal.returns-clause-writes
returns-clause-writes g c = c.in_ok-perform.ensures.writes

pub returns-clause-unread : goal.returns-clause-unread
returns-clause-unread g c = c.in_ok-perform.ensures.unread

pub returns-clause-given_up : goal.returns-clause-given_up
returns-clause-given_up g c = tt

pub returns-clause-read_fault : goal.returns-clause-read_fault
returns-clause-read_fault g c = λ e. absurd cc

pub returns-clause-write_fault : goal.returns-clause-write_fault
returns-clause-write_fault g c = λ e. absurd cc
