use Rattle.std.proofs.Common.{refl}
use Rattle.py_code.specs.Loaded.{modules_of}
use Rattle.py_value.proofs.Changes.{on_err}
use Rattle.py_machine.proofs.Errs.{if_err}
use Rattle.py_machine.proofs.GivesUp.{stays, stays_left, stays_thrown}
use Rattle.py_machine.proofs.Throws.{leaves_all, lands_here, goes_up, passed_none}
use Rattle.py_machine.proofs.exceptions.leave.Goals as goal

pub loop-raised-init : goal.loop-raised-init
loop-raised-init g c = passed_none g.T.Tracer.moves c.args.tracer.now _

pub returns-in-None-clause-ok : goal.returns-in-None-clause-ok
returns-in-None-clause-ok g c =
    leaves_all g.T.Tracer.moves (modules_of c.args.programs.now) c.args.raised c.args.tracer.now c.loop-raised.tracer c.event.new.self _ c.loop-raised.m c.loop-raised.store c.fail.new.self c.fail.ensures c.loop-raised.invariant c.in_ok-event.ensures.moved
    c.in-None.ensures.0 (record c.loop-raised.m { callers = c.pop.new.self }) refl

pub returns-in_err-event-clause-given_up : goal.returns-in_err-event-clause-given_up
returns-in_err-event-clause-given_up g c =
    on_err _ _ (stays g.T.Tracer.moves g.T.Tracer.refused (modules_of c.args.programs.now) c.args.raised c.args.tracer.now c.loop-raised.tracer _ c.loop-raised.m c.args.store.now c.loop-raised.store c.loop-raised.invariant c.event.new.self c.in_err-event.ensures.refused)

pub loop-raised-preserved : goal.loop-raised-preserved
loop-raised-preserved g c =
    goes_up g.T.Tracer.moves (modules_of c.args.programs.now) c.args.raised c.args.tracer.now c.loop-raised.tracer c.event.new.self _ c.loop-raised.m c.loop-raised.store c.fail.new.self c.fail.ensures c.loop-raised.invariant c.in_ok-event.ensures.moved
    c.event-in-loop-raised.new.self c.in_ok-event-2.ensures.moved c.in-Some.f c.pop.new.self c.in-Some.ensures (record c.loop-raised.m { top = c.in-Some.f; callers = c.pop.new.self }) c.catch.new.self refl c.in_ok-catch.field-0
    (λ o out. c.in_ok-catch.ensures.caught c.fail.new.self o out) c.if-branch.false (c.in_ok-catch.ensures.kept c.if-branch.false)

pub returns-then-branch-clause-ok : goal.returns-then-branch-clause-ok
returns-then-branch-clause-ok g c =
    lands_here g.T.Tracer.moves (modules_of c.args.programs.now) c.args.raised c.args.tracer.now c.loop-raised.tracer c.event.new.self _ c.loop-raised.m c.loop-raised.store c.fail.new.self c.fail.ensures c.loop-raised.invariant c.in_ok-event.ensures.moved
    c.event-in-loop-raised.new.self c.in_ok-event-2.ensures.moved c.in-Some.f c.pop.new.self c.in-Some.ensures (record c.loop-raised.m { top = c.in-Some.f; callers = c.pop.new.self }) c.catch.new.self refl c.in_ok-catch.field-0
    (λ o out. c.in_ok-catch.ensures.caught c.fail.new.self o out) c.if-branch.true

pub returns-in_err-event-2-clause-given_up : goal.returns-in_err-event-2-clause-given_up
returns-in_err-event-2-clause-given_up g c =
    on_err _ _ (stays_left g.T.Tracer.moves g.T.Tracer.refused (modules_of c.args.programs.now) c.args.raised c.args.tracer.now c.loop-raised.tracer _ c.loop-raised.m c.args.store.now c.loop-raised.store c.loop-raised.invariant c.in-Some.f c.pop.new.self c.in-Some.ensures
    c.event.new.self c.event-in-loop-raised.new.self c.in_ok-event.ensures.moved c.in_err-event-2.ensures.refused)

pub returns-in_err-catch-clause-given_up : goal.returns-in_err-catch-clause-given_up
returns-in_err-catch-clause-given_up g c =
    on_err _ _ (stays_thrown g.T.Tracer.moves g.T.Tracer.refused (modules_of c.args.programs.now) c.args.raised c.args.tracer.now c.loop-raised.tracer _ c.loop-raised.m c.args.store.now c.loop-raised.store c.loop-raised.invariant c.in-Some.f c.pop.new.self c.in-Some.ensures
    c.event.new.self c.event-in-loop-raised.new.self c.in_ok-event.ensures.moved c.in_ok-event-2.ensures.moved)

pub returns-in_err-event-clause-ok : goal.returns-in_err-event-clause-ok
returns-in_err-event-clause-ok g c = if_err _ _ c.from_residual.ensures.0

pub returns-in_err-catch-clause-ok : goal.returns-in_err-catch-clause-ok
returns-in_err-catch-clause-ok g c = if_err _ _ c.from_residual-in_err-catch.ensures.0

pub returns-in_err-event-2-clause-ok : goal.returns-in_err-event-2-clause-ok
returns-in_err-event-2-clause-ok g c = if_err _ _ c.from_residual-in_err-event-2.ensures.0

pub returns-in-None-clause-given_up : goal.returns-in-None-clause-given_up
returns-in-None-clause-given_up g c = tt

pub returns-then-branch-clause-given_up : goal.returns-then-branch-clause-given_up
returns-then-branch-clause-given_up g c = tt
