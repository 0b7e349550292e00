use Rattle.std.proofs.Common.{◌≡◌, ℕ, subst, sym, ap, ◌∙◌}
use Rattle.py_grammar.specs.Machine.{Ctx, Out, Next, give, leave}
use Rattle.py_parse_expr.specs.ExprViews.{view_measured, view_class}
use Rattle.py_parse_expr.specs.ExprStacks.{view_goal, view_stack, Valid}
use Rattle.py_parse_expr.specs.ExprTurns.{view_at, Acts}
use Rattle.py_parse_expr.proofs.View.ExprSteps.{popped, stays_acts}
use Rattle.py_parse_expr.proofs.expr_steps.give.Goals as goal

pub returns-in-Next : goal.returns-in-Next
returns-in-Next c = let p = popped (give (view_measured c.args.measured) (view_stack c.args.stack.now) (view_class c.args.class.now)) c.args.stack.now.limit (view_class c.args.class.now) c.frames.measured c.frames.stack c.in-Some.frame c.pop.new.self c.frames.invariant c.in-Some.ensures.pops c.in-Some.ensures.valid in let h = rw c.in-Next.is at (c.in_ok-progress.ensures (view_stack c.pop.new.self)) in (p.0 ∙ h.0, h.1, p.1)

pub push-requires-clause-frame : goal.push-requires-clause-frame
push-requires-clause-frame c = let h = rw c.in-Opens.is at (c.in_ok-progress.ensures (view_stack c.pop.new.self)) in h.1

pub returns-in-Opens : goal.returns-in-Opens
returns-in-Opens c = let p = popped (give (view_measured c.args.measured) (view_stack c.args.stack.now) (view_class c.args.class.now)) c.args.stack.now.limit (view_class c.args.class.now) c.frames.measured c.frames.stack c.in-Some.frame c.pop.new.self c.frames.invariant c.in-Some.ensures.pops c.in-Some.ensures.valid in let h = rw c.in-Opens.is at (c.in_ok-progress.ensures (view_stack c.pop.new.self)) in (p.0 ∙ h.0 ∙ ap (λ (k : Ctx). Next (view_at c.in-Opens.progress k)) (sym c.in_ok-push-in-Opens.ensures.view), h.2, subst (λ (n : ℕ). Valid n c.push.new.self) p.1.same c.in_ok-push-in-Opens.ensures.valid)

pub returns-in-Stuck : goal.returns-in-Stuck
returns-in-Stuck c = let p = popped (give (view_measured c.args.measured) (view_stack c.args.stack.now) (view_class c.args.class.now)) c.args.stack.now.limit (view_class c.args.class.now) c.frames.measured c.frames.stack c.in-Some.frame c.pop.new.self c.frames.invariant c.in-Some.ensures.pops c.in-Some.ensures.valid in let h = rw c.in-Stuck.is at (c.in_ok-progress.ensures (view_stack c.pop.new.self)) in p.0 ∙ h

pub frames-preserved : goal.frames-preserved
frames-preserved c = let p = popped (give (view_measured c.args.measured) (view_stack c.args.stack.now) (view_class c.args.class.now)) c.args.stack.now.limit (view_class c.args.class.now) c.frames.measured c.frames.stack c.in-Some.frame c.pop.new.self c.frames.invariant c.in-Some.ensures.pops c.in-Some.ensures.valid in let h = rw c.in-Passes.is at (c.in_ok-progress.ensures (view_stack c.pop.new.self)) in record { same = p.0 ∙ h.0; measured = h.1; valid = p.1 }

pub returns : goal.returns
returns c =
    let e = view_measured c.frames.measured in
    let t = view_class c.args.class.now in
    let limit : c.pop.new.self.limit ≡ c.args.stack.now.limit = c.in_default.ensures.valid.same ∙ c.frames.invariant.valid.same in
    let same : give (view_measured c.args.measured) (view_stack c.args.stack.now) t ≡ leave e (view_goal c.replace-goal.result) t = c.frames.invariant.same ∙ ap (λ (k : Ctx). give e k t) c.in_default.ensures.pops ∙ ap (λ g. leave e (view_goal g) t) (sym c.replace-goal.ensures.value) in
    subst (λ (o : Out). Acts o c.args.stack.now.limit c.new.result c.leave.result) (sym same) (stays_acts (λ (k : Ctx). leave e (view_goal c.replace-goal.result) t) c.args.stack.now.limit c.new.result c.leave.result (subst (λ (n : ℕ). Valid n c.new.result) limit c.new.ensures.valid) c.leave.ensures)
