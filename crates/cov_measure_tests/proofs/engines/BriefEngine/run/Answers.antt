use Rattle.std.proofs.Common.{[], ◌∷◌, true, false, refl}
use Rattle.cov_measure_tests.proofs.engines.BriefEngine.run.Goals as goal

pub returns-in_err-event-clause-calls : goal.returns-in_err-event-clause-calls
returns-in_err-event-clause-calls g c =
    ((_, false) ∷ [], tt, (c.event.new.self, c.in_err-event.ensures.refused, refl))

pub returns-in_err-event-2-clause-calls : goal.returns-in_err-event-2-clause-calls
returns-in_err-event-2-clause-calls g c =
    ((_, true) ∷ (_, false) ∷ [], tt, (c.event.new.self, c.in_ok-event.ensures.moved, (c.event-2.new.self, c.in_err-event-2.ensures.refused, refl)))

pub returns-in_err-event-3-clause-calls : goal.returns-in_err-event-3-clause-calls
returns-in_err-event-3-clause-calls g c =
    ((_, true) ∷ (_, true) ∷ (_, false) ∷ [], tt, (c.event.new.self, c.in_ok-event.ensures.moved, (c.event-2.new.self, c.in_ok-event-2.ensures.moved, (c.event-3.new.self, c.in_err-event-3.ensures.refused, refl))))

pub returns-clause-calls : goal.returns-clause-calls
returns-clause-calls g c =
    ((_, true) ∷ (_, true) ∷ (_, true) ∷ [], tt, (c.event.new.self, c.in_ok-event.ensures.moved, (c.event-2.new.self, c.in_ok-event-2.ensures.moved, (c.event-3.new.self, c.in_ok-event-3.ensures.moved, refl))))
