use Rattle.std.proofs.Common.{ap, ◌∙◌, sym, map}
use Rattle.py_value.proofs.Changes.{on_err}
use Rattle.py_value.specs.View.{plain_raised}
use Rattle.py_code.specs.Loaded.{modules_of}
use Rattle.py_code.specs.Machine.{leave}
use Rattle.py_code.specs.Slots.{by_slots}
use Rattle.py_instructions.specs.View.{plain_frame, effects_of, seen, catching}
use Rattle.py_machine.proofs.Errs.{if_err}
use Rattle.py_machine.proofs.GivesUp.{gives_up_first, given_up_as}
use Rattle.py_machine.proofs.Grows.{escape, grown_same}
use Rattle.py_machine.proofs.Throws.{caught_here, tells_as}
use Rattle.py_machine.proofs.exceptions.escape.Goals as goal

pub returns-then-branch-clause-ok : goal.returns-then-branch-clause-ok
returns-then-branch-clause-ok g c =
    caught_here g.T.Tracer.moves c.args.tracer.now _
    (λ o. leave (by_slots (modules_of c.args.programs.now)) (modules_of c.args.programs.now) (plain_raised c.args.raised) c.args.m.now.top.code (map plain_frame c.args.m.now.callers) c.args.m.now.steps (effects_of c.args.store.now o))
    c.catch.new.self c.args.store.now c.in_ok-catch.field-0 c.if-branch.true
    (λ o. c.in_ok-catch.ensures.caught c.args.store.now o
    (leave (by_slots (modules_of c.args.programs.now)) (modules_of c.args.programs.now) (plain_raised c.args.raised) c.args.m.now.top.code (map plain_frame c.args.m.now.callers) c.args.m.now.steps (effects_of c.args.store.now o)))

pub returns-clause-ok : goal.returns-clause-ok
returns-clause-ok g c =
    tells_as _ _ _ _ c.in_ok-leave.field-0
    (λ o.
    c.in_ok-catch.ensures.caught c.args.store.now o
    (leave (by_slots (modules_of c.args.programs.now)) (modules_of c.args.programs.now) (plain_raised c.args.raised) c.args.m.now.top.code (map plain_frame c.args.m.now.callers) c.args.m.now.steps (effects_of c.args.store.now o))
    ∙ ap (λ b. catching b
    (leave (by_slots (modules_of c.args.programs.now)) (modules_of c.args.programs.now) (plain_raised c.args.raised) c.args.m.now.top.code (map plain_frame c.args.m.now.callers) c.args.m.now.steps (effects_of c.args.store.now o))
    (seen c.catch.new.self c.args.store.now o)) c.if-branch.false
    ∙ ap (λ x. leave (by_slots (modules_of c.args.programs.now)) (modules_of c.args.programs.now) (plain_raised c.args.raised) x.top.code (map plain_frame x.callers) x.steps (effects_of c.args.store.now o)) (sym (c.in_ok-catch.ensures.kept c.if-branch.false)))
    c.in_ok-leave.ensures.ok

pub returns-in_err-catch-clause-given_up : goal.returns-in_err-catch-clause-given_up
returns-in_err-catch-clause-given_up g c =
    on_err _ _ (gives_up_first g.T.Tracer.moves g.T.Tracer.refused c.args.tracer.now c.args.store.now _
    (λ o. escape (by_slots (modules_of c.args.programs.now)) (modules_of c.args.programs.now) (effects_of c.args.store.now o) (plain_raised c.args.raised) c.args.is_thrown (seen c.args.m.now c.args.store.now o) (grown_same (effects_of c.args.store.now o))))

pub returns-in_err-leave-clause-given_up : goal.returns-in_err-leave-clause-given_up
returns-in_err-leave-clause-given_up g c =
    on_err _ _ (given_up_as _ c.args.store.now _ _
    (λ o.
    c.in_ok-catch.ensures.caught c.args.store.now o
    (leave (by_slots (modules_of c.args.programs.now)) (modules_of c.args.programs.now) (plain_raised c.args.raised) c.args.m.now.top.code (map plain_frame c.args.m.now.callers) c.args.m.now.steps (effects_of c.args.store.now o))
    ∙ ap (λ b. catching b
    (leave (by_slots (modules_of c.args.programs.now)) (modules_of c.args.programs.now) (plain_raised c.args.raised) c.args.m.now.top.code (map plain_frame c.args.m.now.callers) c.args.m.now.steps (effects_of c.args.store.now o))
    (seen c.catch.new.self c.args.store.now o)) c.if-branch.false
    ∙ ap (λ x. leave (by_slots (modules_of c.args.programs.now)) (modules_of c.args.programs.now) (plain_raised c.args.raised) x.top.code (map plain_frame x.callers) x.steps (effects_of c.args.store.now o)) (sym (c.in_ok-catch.ensures.kept c.if-branch.false)))
    c.in_err-leave.ensures.given_up)

pub returns-in_err-catch-clause-ok : goal.returns-in_err-catch-clause-ok
returns-in_err-catch-clause-ok g c = if_err _ _ c.from_residual.ensures.0

pub returns-in_err-leave-clause-ok : goal.returns-in_err-leave-clause-ok
returns-in_err-leave-clause-ok g c = if_err _ _ c.from_residual-in_err-leave.ensures.0

pub returns-clause-given_up : goal.returns-clause-given_up
returns-clause-given_up g c = tt

pub returns-then-branch-clause-given_up : goal.returns-then-branch-clause-given_up
returns-then-branch-clause-given_up g c = tt
