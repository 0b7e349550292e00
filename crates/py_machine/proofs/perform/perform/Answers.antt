use Rattle.std.proofs.Common.{[], ◌∷◌, None, ap, inl, inr}
use Rattle.py_code.specs.Loaded.{modules_of}
use Rattle.py_instructions.specs.declared.turn.Turn.TheVariants.{Tells}
use Rattle.py_instructions.specs.View.{effects_of, seen, turned}
use Rattle.py_machine.proofs.Errs.{if_fault}
use Rattle.py_machine.proofs.TracerCalls.{calls_none, calls_one, calls_refused, calls_taken, calls_some}
use Rattle.py_machine.proofs.GivesUp.{gives_up_refused, given_up_as}
use Rattle.py_machine.proofs.Grows.{grown_same}
use Rattle.py_machine.proofs.Performs.{only_told, quiet, step_as}
use Rattle.py_machine.proofs.Stops.{only_given_up, broken_as}
use Rattle.py_machine.proofs.Throws.{and_told, tells_as, tells_one}
use Rattle.py_machine.proofs.perform.perform.Goals as goal

pub returns-in-Goes-clause-ok : goal.returns-in-Goes-clause-ok
returns-in-Goes-clause-ok g c =
    quiet g.T.Tracer.moves g.O.Sink.tells g.I.Source.tells c.args.at_end.now _ (seen c.args.m.now c.args.store.now) None c.args.tracer.now (g.O.Sink.contents c.args.out.now) (g.I.Source.left c.args.input.now) c.requires
    (λ o. inl (ap (λ t. turned (modules_of c.args.programs.now) t (seen c.args.m.now c.args.store.now o)) c.in-Goes.is))

pub returns-in-Steps-clause-ok : goal.returns-in-Steps-clause-ok
returns-in-Steps-clause-ok g c =
    quiet g.T.Tracer.moves g.O.Sink.tells g.I.Source.tells c.args.at_end.now _ (seen c.args.m.now c.args.store.now) None c.args.tracer.now (g.O.Sink.contents c.args.out.now) (g.I.Source.left c.args.input.now) c.requires
    (λ o. inr (ap (λ t. turned (modules_of c.args.programs.now) t (seen c.args.m.now c.args.store.now o)) c.in-Steps.is))

pub returns-in_ok-event-in-Tells-clause-ok : goal.returns-in_ok-event-in-Tells-clause-ok
returns-in_ok-event-in-Tells-clause-ok g c =
    only_told g.T.Tracer.moves g.O.Sink.tells g.I.Source.tells c.args.at_end.now _ (seen c.args.m.now c.args.store.now) None c.args.tracer.now c.event.new.self (g.O.Sink.contents c.args.out.now) (g.I.Source.left c.args.input.now) c.requires
    (tells_one g.T.Tracer.moves c.args.tracer.now c.event.new.self c.in-Tells.event _ (seen c.args.m.now c.args.store.now) None c.in_ok-event-in-Tells.ensures.moved
    (λ o. inr (ap (λ t. turned (modules_of c.args.programs.now) t (seen c.args.m.now c.args.store.now o)) c.in-Tells.is)))

pub returns-in_ok-throw-in-Throws-clause-ok : goal.returns-in_ok-throw-in-Throws-clause-ok
returns-in_ok-throw-in-Throws-clause-ok g c =
    only_told g.T.Tracer.moves g.O.Sink.tells g.I.Source.tells c.args.at_end.now _ _ c.in_ok-throw-in-Throws.field-0 c.args.tracer.now c.throw.new.tracer (g.O.Sink.contents c.args.out.now) (g.I.Source.left c.args.input.now) c.requires
    (tells_as _ _ _ _ c.in_ok-throw-in-Throws.field-0 (λ o. ap (λ t. turned (modules_of c.args.programs.now) t (seen c.args.m.now c.args.store.now o)) c.in-Throws.is) c.in_ok-throw-in-Throws.ensures.ok)

pub returns-in_ok-escape-in-Escapes-clause-ok : goal.returns-in_ok-escape-in-Escapes-clause-ok
returns-in_ok-escape-in-Escapes-clause-ok g c =
    only_told g.T.Tracer.moves g.O.Sink.tells g.I.Source.tells c.args.at_end.now _ _ c.in_ok-escape-in-Escapes.field-0 c.args.tracer.now c.escape.new.tracer (g.O.Sink.contents c.args.out.now) (g.I.Source.left c.args.input.now) c.requires
    (tells_as _ _ _ _ c.in_ok-escape-in-Escapes.field-0 (λ o. ap (λ t. turned (modules_of c.args.programs.now) t (seen c.args.m.now c.args.store.now o)) c.in-Escapes.is) c.in_ok-escape-in-Escapes.ensures.ok)

pub returns-in_ok-give-in-Gives-clause-ok : goal.returns-in_ok-give-in-Gives-clause-ok
returns-in_ok-give-in-Gives-clause-ok g c =
    only_told g.T.Tracer.moves g.O.Sink.tells g.I.Source.tells c.args.at_end.now _ _ c.in_ok-give-in-Gives.field-0 c.args.tracer.now c.give.new.tracer (g.O.Sink.contents c.args.out.now) (g.I.Source.left c.args.input.now) c.requires
    (tells_as _ _ _ _ c.in_ok-give-in-Gives.field-0 (λ o. ap (λ t. turned (modules_of c.args.programs.now) t (seen c.args.m.now c.args.store.now o)) c.in-Gives.is) c.in_ok-give-in-Gives.ensures.ok)

pub returns-in_ok-ask-in-Asks-clause-ok : goal.returns-in_ok-ask-in-Asks-clause-ok
returns-in_ok-ask-in-Asks-clause-ok g c =
    step_as _ _ _ _ _ _ _ _ _ _ c.in_ok-ask-in-Asks.field-0 (λ o. ap (λ t. turned (modules_of c.args.programs.now) t (seen c.args.m.now c.args.store.now o)) c.in-Asks.is) c.in_ok-ask-in-Asks.ensures.ok

pub returns-in-Spent-clause-ok : goal.returns-in-Spent-clause-ok
returns-in-Spent-clause-ok g c =
    quiet g.T.Tracer.moves g.O.Sink.tells g.I.Source.tells c.args.at_end.now _ (seen c.args.m.now c.args.store.now) _ c.args.tracer.now (g.O.Sink.contents c.args.out.now) (g.I.Source.left c.args.input.now) c.requires
    (λ o. ap (λ t. turned (modules_of c.args.programs.now) t (seen c.args.m.now c.args.store.now o)) c.in-Spent.is)

pub returns-in-Stuck-clause-ok : goal.returns-in-Stuck-clause-ok
returns-in-Stuck-clause-ok g c =
    quiet g.T.Tracer.moves g.O.Sink.tells g.I.Source.tells c.args.at_end.now _ (seen c.args.m.now c.args.store.now) _ c.args.tracer.now (g.O.Sink.contents c.args.out.now) (g.I.Source.left c.args.input.now) c.requires
    (λ o. ap (λ t. turned (modules_of c.args.programs.now) t (seen c.args.m.now c.args.store.now o)) c.in-Stuck.is)

pub returns-in_err-event-in-Tells-clause-given_up : goal.returns-in_err-event-in-Tells-clause-given_up
returns-in_err-event-in-Tells-clause-given_up g c =
    if_fault _ _ _ c.from_residual.ensures.1 (only_given_up _ g.O.Sink.tells (g.O.Sink.contents c.args.out.now) c.args.store.now _ g.I.Source.tells c.args.at_end.now (g.I.Source.left c.args.input.now) c.requires
    (given_up_as _ c.args.store.now _ _ (λ o. ap (λ t. turned (modules_of c.args.programs.now) t (seen c.args.m.now c.args.store.now o)) c.in-Tells.is)
    (gives_up_refused g.T.Tracer.moves g.T.Tracer.refused c.args.tracer.now c.event.new.self c.in-Tells.event c.args.store.now (λ o. turned (modules_of c.args.programs.now) (Tells c.in-Tells.event) (seen c.args.m.now c.args.store.now o)) c.in_err-event-in-Tells.ensures.refused
    (λ o. record { holds = grown_same (effects_of c.args.store.now (and_told (c.in-Tells.event ∷ []) o)) }))))

pub returns-in_err-event-in-Tells-clause-calls : goal.returns-in_err-event-in-Tells-clause-calls
returns-in_err-event-in-Tells-clause-calls g c = calls_refused g.T.Tracer.moves g.T.Tracer.refused c.args.tracer.now c.event.new.self c.in-Tells.event c.in_err-event-in-Tells.ensures.refused

pub returns-in_ok-event-in-Tells-clause-calls : goal.returns-in_ok-event-in-Tells-clause-calls
returns-in_ok-event-in-Tells-clause-calls g c = calls_one g.T.Tracer.moves g.T.Tracer.refused c.args.tracer.now c.event.new.self c.in-Tells.event c.in_ok-event-in-Tells.ensures.moved

pub returns-in-Goes-clause-calls : goal.returns-in-Goes-clause-calls
returns-in-Goes-clause-calls g c = calls_none g.T.Tracer.moves g.T.Tracer.refused c.args.tracer.now

pub returns-in-Steps-clause-calls : goal.returns-in-Steps-clause-calls
returns-in-Steps-clause-calls g c = calls_none g.T.Tracer.moves g.T.Tracer.refused c.args.tracer.now

pub returns-in-Spent-clause-calls : goal.returns-in-Spent-clause-calls
returns-in-Spent-clause-calls g c = calls_none g.T.Tracer.moves g.T.Tracer.refused c.args.tracer.now

pub returns-in-Stuck-clause-calls : goal.returns-in-Stuck-clause-calls
returns-in-Stuck-clause-calls g c = calls_none g.T.Tracer.moves g.T.Tracer.refused c.args.tracer.now

pub returns-in_err-throw-in-Throws-clause-given_up : goal.returns-in_err-throw-in-Throws-clause-given_up
returns-in_err-throw-in-Throws-clause-given_up g c =
    if_fault _ _ _ c.from_residual-in_err-throw-in-Throws.ensures.1 (only_given_up _ g.O.Sink.tells (g.O.Sink.contents c.args.out.now) c.args.store.now _ g.I.Source.tells c.args.at_end.now (g.I.Source.left c.args.input.now) c.requires
    (given_up_as _ c.args.store.now _ _ (λ o. ap (λ t. turned (modules_of c.args.programs.now) t (seen c.args.m.now c.args.store.now o)) c.in-Throws.is) c.in_err-throw-in-Throws.ensures.given_up))

pub returns-in_err-throw-in-Throws-clause-calls : goal.returns-in_err-throw-in-Throws-clause-calls
returns-in_err-throw-in-Throws-clause-calls g c =
    let p = c.in_err-throw-in-Throws.ensures.given_up in
    calls_some g.T.Tracer.moves g.T.Tracer.refused c.args.tracer.now c.throw.new.tracer p.events p.has_told

pub returns-in_ok-throw-in-Throws-clause-calls : goal.returns-in_ok-throw-in-Throws-clause-calls
returns-in_ok-throw-in-Throws-clause-calls g c =
    let p = c.in_ok-throw-in-Throws.ensures.ok in
    calls_taken g.T.Tracer.moves g.T.Tracer.refused c.args.tracer.now c.throw.new.tracer p.events p.has_told

pub returns-in_err-escape-in-Escapes-clause-given_up : goal.returns-in_err-escape-in-Escapes-clause-given_up
returns-in_err-escape-in-Escapes-clause-given_up g c =
    if_fault _ _ _ c.from_residual-in_err-escape-in-Escapes.ensures.1 (only_given_up _ g.O.Sink.tells (g.O.Sink.contents c.args.out.now) c.args.store.now _ g.I.Source.tells c.args.at_end.now (g.I.Source.left c.args.input.now) c.requires
    (given_up_as _ c.args.store.now _ _ (λ o. ap (λ t. turned (modules_of c.args.programs.now) t (seen c.args.m.now c.args.store.now o)) c.in-Escapes.is) c.in_err-escape-in-Escapes.ensures.given_up))

pub returns-in_err-escape-in-Escapes-clause-calls : goal.returns-in_err-escape-in-Escapes-clause-calls
returns-in_err-escape-in-Escapes-clause-calls g c =
    let p = c.in_err-escape-in-Escapes.ensures.given_up in
    calls_some g.T.Tracer.moves g.T.Tracer.refused c.args.tracer.now c.escape.new.tracer p.events p.has_told

pub returns-in_ok-escape-in-Escapes-clause-calls : goal.returns-in_ok-escape-in-Escapes-clause-calls
returns-in_ok-escape-in-Escapes-clause-calls g c =
    let p = c.in_ok-escape-in-Escapes.ensures.ok in
    calls_taken g.T.Tracer.moves g.T.Tracer.refused c.args.tracer.now c.escape.new.tracer p.events p.has_told

pub returns-in_err-give-in-Gives-clause-given_up : goal.returns-in_err-give-in-Gives-clause-given_up
returns-in_err-give-in-Gives-clause-given_up g c =
    if_fault _ _ _ c.from_residual-in_err-give-in-Gives.ensures.1 (only_given_up _ g.O.Sink.tells (g.O.Sink.contents c.args.out.now) c.args.store.now _ g.I.Source.tells c.args.at_end.now (g.I.Source.left c.args.input.now) c.requires
    (given_up_as _ c.args.store.now _ _ (λ o. ap (λ t. turned (modules_of c.args.programs.now) t (seen c.args.m.now c.args.store.now o)) c.in-Gives.is) c.in_err-give-in-Gives.ensures.given_up))

pub returns-in_err-give-in-Gives-clause-calls : goal.returns-in_err-give-in-Gives-clause-calls
returns-in_err-give-in-Gives-clause-calls g c =
    let p = c.in_err-give-in-Gives.ensures.given_up in
    calls_some g.T.Tracer.moves g.T.Tracer.refused c.args.tracer.now c.give.new.tracer p.events p.has_told

pub returns-in_ok-give-in-Gives-clause-calls : goal.returns-in_ok-give-in-Gives-clause-calls
returns-in_ok-give-in-Gives-clause-calls g c =
    let p = c.in_ok-give-in-Gives.ensures.ok in
    calls_taken g.T.Tracer.moves g.T.Tracer.refused c.args.tracer.now c.give.new.tracer p.events p.has_told

pub returns-in_err-ask-in-Asks-clause-given_up : goal.returns-in_err-ask-in-Asks-clause-given_up
returns-in_err-ask-in-Asks-clause-given_up g c =
    if_fault _ _ _ c.from_residual-in_err-ask-in-Asks.ensures.1 (broken_as _ _ _ _ _ _ _ _ c.args.store.now c.args.store.now _ _ (λ o. ap (λ t. turned (modules_of c.args.programs.now) t (seen c.args.m.now c.args.store.now o)) c.in-Asks.is) c.in_err-ask-in-Asks.ensures.given_up)
