use Rattle.std.proofs.Common.{◌≡◌, ap, sym, ◌∙◌, subst, true}
use Rattle.std.specs.Prelude.{None}
use Rattle.cov_event.specs.declared.event.Event.TheVariants.{Return}
use Rattle.cov_recorder.specs.Recording.{next}
use Rattle.cov_recorder.specs.Steps.{CountsAt}
use Rattle.cov_recorder.proofs.Moving.{leave_recorded, leave_view, popped}
use Rattle.cov_recorder.proofs.records.Records.leave.Goals as goal

pub invariant_of-self : goal.invariant_of-self
invariant_of-self c =
    let a = c.self.inside in
    let frame = c.in-Some.frame.now in
    let e = c.in-Some.ensures in
    let f = c.count.ensures in
    let arcs : a.arcs ≡ true = c.if-self.true in
    let left = popped c.pop.result a.frames c.pop.new.self c.pop.ensures frame e.0 e.1 in
    let counts = subst (λ sets. CountsAt sets true frame frame.seat 0 a.rows c.count.new.rows) c.deref.ensures.value f in
    leave_recorded a frame e.0 c.count.new.rows c.pop.new.self c.self.invariant e.1 arcs (subst (λ b. CountsAt a.sets.items b frame frame.seat 0 a.rows c.count.new.rows) (sym arcs) counts) left

pub returns-in-Some : goal.returns-in-Some
returns-in-Some c =
    let a = c.self.inside in
    let frame = c.in-Some.frame.now in
    let e = c.in-Some.ensures in
    let f = c.count.ensures in
    let arcs : a.arcs ≡ true = c.if-self.true in
    let left = popped c.pop.result a.frames c.pop.new.self c.pop.ensures frame e.0 e.1 in
    let counts = subst (λ sets. CountsAt sets true frame frame.seat 0 a.rows c.count.new.rows) c.deref.ensures.value f in
    leave_view a frame e.0 c.count.new.rows c.pop.new.self c.self.invariant e.1 arcs (subst (λ b. CountsAt a.sets.items b frame frame.seat 0 a.rows c.count.new.rows) (sym arcs) counts) left
    ∙ ap (λ r. next None r Return) c.self.view_is
