use Rattle.std.proofs.Common.{sym, ap, ◌∙◌}
use Rattle.py_syntax.specs.Tree.{Expr}
use Rattle.py_grammar.specs.Machine.{Ctx, on, post_rest, Next, Have}
use Rattle.py_parse_expr.specs.ExprViews.{view_measured}
use Rattle.py_parse_expr.specs.ExprStacks.{view_stack}
use Rattle.py_parse_expr.proofs.expr_brackets.closed.Goals as goal

pub returns-in_ok-push-in-Ok : goal.returns-in_ok-push-in-Ok
returns-in_ok-push-in-Ok c = λ e h.
    let m = rw c.in-Ok.is at h in
    (ap (λ (x : Expr). Next (Have x (on post_rest (view_stack c.args.stack.now)))) (sym m.is) ∙ ap (λ (k : Ctx). Next (Have (view_measured c.in-Ok.measured) k)) (sym c.in_ok-push-in-Ok.ensures.view), m.valid, c.in_ok-push-in-Ok.ensures.valid)
