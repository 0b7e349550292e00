use Rattle.std.proofs.Common.{◌<◌, ◌≤◌, ap, ◌∙◌, subst, arith}
use Rattle.cov_event.specs.declared.event.Event.TheVariants.{Line}
use Rattle.std.specs.Prelude.{None}
use Rattle.cov_recorder.specs.Recording.{next}
use Rattle.cov_recorder.specs.Steps.{CountsAt}
use Rattle.cov_recorder.proofs.Moving.{line_recorded, line_view}
use Rattle.cov_recorder.proofs.records.Records.line.Goals as goal

pub invariant_of-self : goal.invariant_of-self
invariant_of-self c =
    let a = c.self.inside in
    let frame = c.in-Some.frame.now in
    let low : 0 < c.args.line = omega arith in
    let high : c.args.line ≤ 65535 = omega arith in
    let e = c.in-Some.ensures in
    let f = c.count.ensures in
    line_recorded a frame e.0 c.args.line c.count.new.rows c.begin.new.self c.self.invariant e.1 (subst (λ sets. CountsAt sets a.arcs frame frame.seat c.args.line a.rows c.count.new.rows) c.deref.ensures.value f) high low c.begin.ensures

pub returns-in-Some : goal.returns-in-Some
returns-in-Some c =
    let a = c.self.inside in
    let frame = c.in-Some.frame.now in
    let low : 0 < c.args.line = omega arith in
    let high : c.args.line ≤ 65535 = omega arith in
    let e = c.in-Some.ensures in
    let f = c.count.ensures in
    line_view a frame e.0 c.args.line c.count.new.rows c.begin.new.self c.self.invariant e.1 (subst (λ sets. CountsAt sets a.arcs frame frame.seat c.args.line a.rows c.count.new.rows) c.deref.ensures.value f) high low c.begin.ensures
    ∙ ap (λ r. next None r (Line c.args.line)) c.self.view_is
