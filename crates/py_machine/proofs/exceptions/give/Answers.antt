use Rattle.std.proofs.Common.{[], ◌∷◌, ap, map, inl, refl, arith}
use Rattle.cov_event.specs.declared.event.Event.TheVariants.{Return as Returned}
use Rattle.py_value.proofs.Changes.{on_err}
use Rattle.py_value.specs.View.{plain}
use Rattle.py_code.specs.Loaded.{modules_of}
use Rattle.py_code.specs.Machine.{give}
use Rattle.py_code.specs.Slots.{by_slots}
use Rattle.py_instructions.specs.View.{plain_frame, effects_of}
use Rattle.py_machine.proofs.Errs.{if_err}
use Rattle.py_machine.proofs.GivesUp.{gives_up, gives_up_refused}
use Rattle.py_machine.proofs.Grows.{gives_from, grown_same}
use Rattle.py_machine.proofs.Throws.{and_told, tells_one, given_back}
use Rattle.py_machine.proofs.exceptions.give.Goals as goal

pub returns-in-None-clause-ok : goal.returns-in-None-clause-ok
returns-in-None-clause-ok g c =
    tells_one g.T.Tracer.moves c.args.tracer.now c.event.new.self Returned _ _ _ c.in_ok-event.ensures.moved
    (λ o. ap (λ fs. give (by_slots (modules_of c.args.programs.now)) (modules_of c.args.programs.now) (plain c.args.value) (map plain_frame fs) c.args.m.now.steps (effects_of c.args.store.now o)) c.in-None.ensures.0)

pub returns-in_ok-push-in-Some-checked_add-clause-ok : goal.returns-in_ok-push-in-Some-checked_add-clause-ok
returns-in_ok-push-in-Some-checked_add-clause-ok g c =
    tells_one g.T.Tracer.moves c.args.tracer.now c.event.new.self Returned _ _ _ c.in_ok-event.ensures.moved
    (λ o. inl (given_back (modules_of c.args.programs.now) c.args.m.now c.in-Some.f c.pop.new.self c.in-Some.ensures c.args.value c.in-Some-checked_add.place (omega arith) c.push.new.self c.in_ok-push-in-Some-checked_add.ensures.ok c.args.store.now o))

pub returns-in_err-event-clause-given_up : goal.returns-in_err-event-clause-given_up
returns-in_err-event-clause-given_up g c =
    on_err _ _ (gives_up_refused g.T.Tracer.moves g.T.Tracer.refused c.args.tracer.now c.event.new.self Returned c.args.store.now _ c.in_err-event.ensures.refused
    (λ o. gives_from (by_slots (modules_of c.args.programs.now)) (modules_of c.args.programs.now) (effects_of c.args.store.now (and_told (Returned ∷ []) o)) (plain c.args.value) (map plain_frame c.args.m.now.callers) c.args.m.now.steps (effects_of c.args.store.now o) (grown_same (effects_of c.args.store.now (and_told (Returned ∷ []) o)))))

pub returns-in-None-checked_add-clause-given_up : goal.returns-in-None-checked_add-clause-given_up
returns-in-None-checked_add-clause-given_up g c =
    gives_up g.T.Tracer.moves g.T.Tracer.refused c.args.tracer.now _ (Returned ∷ []) c.args.store.now _ (inl (c.event.new.self, c.in_ok-event.ensures.moved, refl))
    (λ o. gives_from (by_slots (modules_of c.args.programs.now)) (modules_of c.args.programs.now) (effects_of c.args.store.now (and_told (Returned ∷ []) o)) (plain c.args.value) (map plain_frame c.args.m.now.callers) c.args.m.now.steps (effects_of c.args.store.now o)
    (grown_same (effects_of c.args.store.now (and_told (Returned ∷ []) o))))

pub returns-in_err-push-in-Some-checked_add-clause-given_up : goal.returns-in_err-push-in-Some-checked_add-clause-given_up
returns-in_err-push-in-Some-checked_add-clause-given_up g c =
    on_err _ _ (gives_up g.T.Tracer.moves g.T.Tracer.refused c.args.tracer.now _ (Returned ∷ []) c.args.store.now _ (inl (c.event.new.self, c.in_ok-event.ensures.moved, refl))
    (λ o. gives_from (by_slots (modules_of c.args.programs.now)) (modules_of c.args.programs.now) (effects_of c.args.store.now (and_told (Returned ∷ []) o)) (plain c.args.value) (map plain_frame c.args.m.now.callers) c.args.m.now.steps (effects_of c.args.store.now o)
    (grown_same (effects_of c.args.store.now (and_told (Returned ∷ []) o)))))

pub returns-in_err-event-clause-ok : goal.returns-in_err-event-clause-ok
returns-in_err-event-clause-ok g c = if_err _ _ c.from_residual.ensures.0

pub returns-in_err-push-in-Some-checked_add-clause-ok : goal.returns-in_err-push-in-Some-checked_add-clause-ok
returns-in_err-push-in-Some-checked_add-clause-ok g c = if_err _ _ c.from_residual-in_err-push-in-Some-checked_add.ensures.0

pub returns-in-None-checked_add-clause-ok : goal.returns-in-None-checked_add-clause-ok
returns-in-None-checked_add-clause-ok g c = tt

pub returns-in-None-clause-given_up : goal.returns-in-None-clause-given_up
returns-in-None-clause-given_up g c = tt

pub returns-in_ok-push-in-Some-checked_add-clause-given_up : goal.returns-in_ok-push-in-Some-checked_add-clause-given_up
returns-in_ok-push-in-Some-checked_add-clause-given_up g c = tt
