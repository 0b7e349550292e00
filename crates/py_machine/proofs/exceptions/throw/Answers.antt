use Rattle.std.proofs.Common.{[], ◌∷◌, refl}
use Rattle.cov_event.specs.declared.event.Event.TheVariants.{Throw}
use Rattle.py_value.proofs.Changes.{on_err}
use Rattle.py_value.specs.View.{plain_raised}
use Rattle.py_code.specs.Loaded.{modules_of}
use Rattle.py_code.specs.Slots.{by_slots}
use Rattle.py_instructions.specs.View.{effects_of, seen}
use Rattle.py_machine.proofs.Errs.{if_err}
use Rattle.py_machine.proofs.GivesUp.{gives_up_refused, given_up_after}
use Rattle.py_machine.proofs.Grows.{flung, grown_same}
use Rattle.py_machine.proofs.Throws.{and_told, tells_after}
use Rattle.py_machine.proofs.exceptions.throw.Goals as goal

pub returns-clause-ok : goal.returns-clause-ok
returns-clause-ok g c = tells_after g.T.Tracer.moves c.args.tracer.now c.event.new.self c.escape.new.tracer _ _ _ _ c.in_ok-escape.field-0 c.in_ok-event.ensures.moved (λ o. refl) c.in_ok-escape.ensures.ok

pub returns-in_err-event-clause-given_up : goal.returns-in_err-event-clause-given_up
returns-in_err-event-clause-given_up g c =
    on_err _ _ (gives_up_refused g.T.Tracer.moves g.T.Tracer.refused c.args.tracer.now c.event.new.self (Throw c.args.raised.kind) c.args.store.now _ c.in_err-event.ensures.refused
    (λ o. flung (by_slots (modules_of c.args.programs.now)) (modules_of c.args.programs.now) (effects_of c.args.store.now (and_told (Throw c.args.raised.kind ∷ []) o)) (plain_raised c.args.raised) (seen c.args.m.now c.args.store.now o) (grown_same (effects_of c.args.store.now (and_told (Throw c.args.raised.kind ∷ []) o)))))

pub returns-in_err-escape-clause-given_up : goal.returns-in_err-escape-clause-given_up
returns-in_err-escape-clause-given_up g c =
    on_err _ _ (given_up_after g.T.Tracer.moves g.T.Tracer.refused c.args.tracer.now c.event.new.self c.escape.new.tracer (Throw c.args.raised.kind ∷ []) c.args.store.now c.args.store.now _ _
    (c.event.new.self, c.in_ok-event.ensures.moved, refl) (λ o. refl) c.in_err-escape.ensures.given_up)

pub returns-in_err-event-clause-ok : goal.returns-in_err-event-clause-ok
returns-in_err-event-clause-ok g c = if_err _ _ c.from_residual.ensures.0

pub returns-in_err-escape-clause-ok : goal.returns-in_err-escape-clause-ok
returns-in_err-escape-clause-ok g c = if_err _ _ c.from_residual-in_err-escape.ensures.0

pub returns-clause-given_up : goal.returns-clause-given_up
returns-clause-given_up g c = tt
