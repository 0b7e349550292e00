use Rattle.std.proofs.Common.{false, [], arith}
use Rattle.py_code.specs.Loaded.{modules_of}
use Rattle.py_machine.proofs.Errs.{if_err, if_fault}
use Rattle.py_machine.proofs.Begins.{begun, starts}
use Rattle.py_machine.proofs.TracerCalls.{calls_none, calls_then}
use Rattle.py_machine.proofs.Hearing.{over_then}
use Rattle.py_machine.proofs.Ahead.{stands_ahead, near_ahead, reached_ahead}
use Rattle.py_machine.proofs.Joins.{further_at, last_at, nearer_at, stands_at}
use Rattle.py_machine.proofs.StopsRuns.{stops_on}
use Rattle.py_machine.proofs.runs.go_on.Goals as goal

pub loop-ending-init : goal.loop-ending-init
loop-ending-init g c = record {
  reached = begun g.T.Tracer.moves c.args.tracer.now g.O.Sink.tells (g.O.Sink.contents c.args.out.now) g.I.Source.tells (g.I.Source.left c.args.input.now) (modules_of c.args.programs.now) c.args.m.now c.args.store.now;
  stand = starts (modules_of c.args.programs.now) c.requires.some c.requires.valid c.args.m.now c.args.store.now c.requires.start;
  calls = calls_none g.T.Tracer.moves g.T.Tracer.refused c.args.tracer.now;
  writes = omega arith;
  reads = omega arith;
}

pub returns-in-Some-clause-ok : goal.returns-in-Some-clause-ok
returns-in-Some-clause-ok g c =
    let st = c.loop-ending.invariant.stand in
    let went = c.in_ok-ending.ensures.ok in
    let stand = stands_ahead (modules_of c.args.programs.now) st.0 st.1 c.loop-ending.m went.mid c.loop-ending.store went.kept st.2 went.ahead in
    let reached = reached_ahead (modules_of c.args.programs.now) st.0 st.1 c.loop-ending.m went.mid c.loop-ending.store went.kept st.2 went.ahead _ _ _ g.I.Source.tells (g.I.Source.left c.args.input.now) (g.I.Source.left c.loop-ending.input) false c.loop-ending.at_end c.loop-ending.invariant.reached in
    last_at (modules_of c.args.programs.now) st.0 st.1 g.T.Tracer.moves c.args.tracer.now c.loop-ending.tracer c.step.new.tracer
    g.O.Sink.tells (g.O.Sink.contents c.args.out.now) (g.O.Sink.contents c.loop-ending.out) (g.O.Sink.contents c.step.new.out) g.I.Source.tells (g.I.Source.left c.args.input.now) (g.I.Source.left c.loop-ending.input) (g.I.Source.left c.step.new.input) false c.loop-ending.at_end c.step.new.at_end
    c.args.m.now went.mid c.step.new.m c.args.store.now went.kept c.step.new.store stand c.in_ok-ending.field-0 c.in-Some.ending c.in-Some.is reached went.holds

pub loop-ending-smaller : goal.loop-ending-smaller
loop-ending-smaller g c =
    let st = c.loop-ending.invariant.stand in
    let went = c.in_ok-ending.ensures.ok in
    let stand = stands_ahead (modules_of c.args.programs.now) st.0 st.1 c.loop-ending.m went.mid c.loop-ending.store went.kept st.2 went.ahead in
    let far = near_ahead (modules_of c.args.programs.now) st.0 st.1 c.loop-ending.m went.mid c.loop-ending.store went.kept st.2 went.ahead (record { input = []; out = []; events = [] }) in
    let near = nearer_at (modules_of c.args.programs.now) st.0 st.1 g.T.Tracer.moves c.args.tracer.now c.loop-ending.tracer c.step.new.tracer
    g.O.Sink.tells (g.O.Sink.contents c.args.out.now) (g.O.Sink.contents c.loop-ending.out) (g.O.Sink.contents c.step.new.out) g.I.Source.tells (g.I.Source.left c.args.input.now) (g.I.Source.left c.loop-ending.input) (g.I.Source.left c.step.new.input) false c.loop-ending.at_end c.step.new.at_end
    c.args.m.now went.mid c.step.new.m c.args.store.now went.kept c.step.new.store stand c.in_ok-ending.field-0 c.in_default.is went.holds in
    omega (arith, far, near)

pub loop-ending-preserved : goal.loop-ending-preserved
loop-ending-preserved g c =
    let st = c.loop-ending.invariant.stand in
    let went = c.in_ok-ending.ensures.ok in
    let stand = stands_ahead (modules_of c.args.programs.now) st.0 st.1 c.loop-ending.m went.mid c.loop-ending.store went.kept st.2 went.ahead in
    let reached = reached_ahead (modules_of c.args.programs.now) st.0 st.1 c.loop-ending.m went.mid c.loop-ending.store went.kept st.2 went.ahead _ _ _ g.I.Source.tells (g.I.Source.left c.args.input.now) (g.I.Source.left c.loop-ending.input) false c.loop-ending.at_end c.loop-ending.invariant.reached in
    record {
      reached = further_at (modules_of c.args.programs.now) st.0 st.1 g.T.Tracer.moves c.args.tracer.now c.loop-ending.tracer c.step.new.tracer
          g.O.Sink.tells (g.O.Sink.contents c.args.out.now) (g.O.Sink.contents c.loop-ending.out) (g.O.Sink.contents c.step.new.out) g.I.Source.tells (g.I.Source.left c.args.input.now) (g.I.Source.left c.loop-ending.input) (g.I.Source.left c.step.new.input) false c.loop-ending.at_end c.step.new.at_end
          c.args.m.now went.mid c.step.new.m c.args.store.now went.kept c.step.new.store stand c.in_ok-ending.field-0 c.in_default.is reached went.holds;
      stand = (
        st.0,
        st.1,
        stands_at (modules_of c.args.programs.now) st.0 st.1 g.T.Tracer.moves c.args.tracer.now c.loop-ending.tracer c.step.new.tracer
            g.O.Sink.tells (g.O.Sink.contents c.args.out.now) (g.O.Sink.contents c.loop-ending.out) (g.O.Sink.contents c.step.new.out) g.I.Source.tells (g.I.Source.left c.args.input.now) (g.I.Source.left c.loop-ending.input) (g.I.Source.left c.step.new.input) false c.loop-ending.at_end c.step.new.at_end
            c.args.m.now went.mid c.step.new.m c.args.store.now went.kept c.step.new.store stand c.in_ok-ending.field-0 c.in_default.is went.holds,
      );
      calls = calls_then g.T.Tracer.moves g.T.Tracer.refused c.args.tracer.now c.loop-ending.tracer c.step.new.tracer c.loop-ending.invariant.calls c.in_ok-ending.ensures.calls;
      writes = omega (arith, c.loop-ending.invariant.writes, c.in_ok-ending.ensures.writes);
      reads = omega (arith, c.loop-ending.invariant.reads, c.in_ok-ending.ensures.reads);
    }

pub returns-in_err-ending-clause-given_up : goal.returns-in_err-ending-clause-given_up
returns-in_err-ending-clause-given_up g c =
    let st = c.loop-ending.invariant.stand in
    let went = c.in_err-ending.ensures.given_up in
    let stand = stands_ahead (modules_of c.args.programs.now) st.0 st.1 c.loop-ending.m went.mid c.loop-ending.store went.kept st.2 went.ahead in
    let reached = reached_ahead (modules_of c.args.programs.now) st.0 st.1 c.loop-ending.m went.mid c.loop-ending.store went.kept st.2 went.ahead _ _ _ g.I.Source.tells (g.I.Source.left c.args.input.now) (g.I.Source.left c.loop-ending.input) false c.loop-ending.at_end c.loop-ending.invariant.reached in
    if_fault _ _ _ c.from_residual.ensures.1 (stops_on g.T.Tracer.moves g.T.Tracer.refused _ c.args.tracer.now c.loop-ending.tracer c.step.new.tracer g.O.Sink.tells (g.O.Sink.contents c.args.out.now) (g.O.Sink.contents c.loop-ending.out) (g.O.Sink.contents c.step.new.out) g.I.Source.tells (g.I.Source.left c.args.input.now) (g.I.Source.left c.loop-ending.input) (g.I.Source.left c.step.new.input) false c.loop-ending.at_end
    (modules_of c.args.programs.now) st.0 st.1 c.args.m.now went.mid c.args.store.now went.kept stand reached went.holds)

pub returns-in_err-ending-clause-calls : goal.returns-in_err-ending-clause-calls
returns-in_err-ending-clause-calls g c = calls_then g.T.Tracer.moves g.T.Tracer.refused c.args.tracer.now c.loop-ending.tracer c.step.new.tracer c.loop-ending.invariant.calls c.in_err-ending.ensures.calls

pub returns-in-Some-clause-calls : goal.returns-in-Some-clause-calls
returns-in-Some-clause-calls g c = calls_then g.T.Tracer.moves g.T.Tracer.refused c.args.tracer.now c.loop-ending.tracer c.step.new.tracer c.loop-ending.invariant.calls c.in_ok-ending.ensures.calls

pub step-requires-clause-end : goal.step-requires-clause-end
step-requires-clause-end g c = over_then g.I.Source.tells (g.I.Source.left c.args.input.now) (g.I.Source.left c.loop-ending.input) false c.loop-ending.at_end _ c.loop-ending.invariant.reached

pub returns-in-Some-clause-given_up : goal.returns-in-Some-clause-given_up
returns-in-Some-clause-given_up g c = tt

pub returns-in-Some-clause-read_fault : goal.returns-in-Some-clause-read_fault
returns-in-Some-clause-read_fault g c = λ e. absurd cc

pub returns-in-Some-clause-write_fault : goal.returns-in-Some-clause-write_fault
returns-in-Some-clause-write_fault g c = λ e. absurd cc

pub returns-in_err-ending-clause-ok : goal.returns-in_err-ending-clause-ok
returns-in_err-ending-clause-ok g c = if_err _ _ c.from_residual.ensures.0

pub returns-in-Some-clause-reads : goal.returns-in-Some-clause-reads
returns-in-Some-clause-reads g c = omega (arith, c.loop-ending.invariant.reads, c.in_ok-ending.ensures.reads)

pub returns-in_err-ending-clause-reads : goal.returns-in_err-ending-clause-reads
returns-in_err-ending-clause-reads g c = omega (arith, c.loop-ending.invariant.reads, c.in_err-ending.ensures.reads)

pub returns-in-Some-clause-writes : goal.returns-in-Some-clause-writes
returns-in-Some-clause-writes g c = omega (arith, c.loop-ending.invariant.writes, c.in_ok-ending.ensures.writes)

pub returns-in_err-ending-clause-writes : goal.returns-in_err-ending-clause-writes
returns-in_err-ending-clause-writes g c = omega (arith, c.loop-ending.invariant.writes, c.in_err-ending.ensures.writes)
