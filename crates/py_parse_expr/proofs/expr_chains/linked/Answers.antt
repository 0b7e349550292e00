use Rattle.std.proofs.Common.{subst, sym, ap, ◌∙◌}
use Rattle.py_grammar.specs.Machine.{Ctx, Out, Next}
use Rattle.py_parse_expr.specs.ExprStacks.{view_stack}
use Rattle.py_parse_expr.specs.ExprTurns.{view_at, Acts}
use Rattle.py_parse_expr.proofs.expr_chains.linked.Goals as goal

pub returns-in-Next : goal.returns-in-Next
returns-in-Next c = let h = rw c.in-Next.is at (c.in_ok-progress.ensures (view_stack c.args.stack.now)) in (h.0, h.1, c.requires.valid)

pub push-requires-clause-frame : goal.push-requires-clause-frame
push-requires-clause-frame c = let h = rw c.in-Opens.is at (c.in_ok-progress.ensures (view_stack c.args.stack.now)) in h.1

pub returns-in_ok-push-in-Opens : goal.returns-in_ok-push-in-Opens
returns-in_ok-push-in-Opens c = let h = rw c.in-Opens.is at (c.in_ok-progress.ensures (view_stack c.args.stack.now)) in (h.0 ∙ ap (λ (k : Ctx). Next (view_at c.in-Opens.progress k)) (sym c.in_ok-push-in-Opens.ensures.view), h.2, c.in_ok-push-in-Opens.ensures.valid)

pub returns-in-Stuck : goal.returns-in-Stuck
returns-in-Stuck c = rw c.in-Stuck.is at (c.in_ok-progress.ensures (view_stack c.args.stack.now))

pub give-requires-clause-measured : goal.give-requires-clause-measured
give-requires-clause-measured c = let h = rw c.in-Passes.is at (c.in_ok-progress.ensures (view_stack c.args.stack.now)) in h.1

pub returns-in-Passes : goal.returns-in-Passes
returns-in-Passes c = let h = rw c.in-Passes.is at (c.in_ok-progress.ensures (view_stack c.args.stack.now)) in subst (λ (o : Out). Acts o c.args.stack.now.limit c.give.new.stack c.give.result) (sym h.0) c.give.ensures
