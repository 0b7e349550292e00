use Rattle.std.proofs.Common.{sym, subst, ap, ◌∙◌}
use Rattle.py_syntax.specs.Tree.{Expr, Links}
use Rattle.py_syntax.specs.View.{plain_expr}
use Rattle.py_grammar.specs.Machine.{Linked, step, Out}
use Rattle.py_parse_expr.specs.ExprViews.{view_measured, view_links, view_class}
use Rattle.py_parse_expr.specs.ExprTurns.{Becomes}
use Rattle.py_parse_expr.proofs.View.ExprFrames.{give_link}
use Rattle.py_parse_expr.proofs.expr_frames.compare_rest.Goals as goal

pub returns : goal.returns
returns c = λ k.
    let t = view_class c.args.class.now in
    subst (λ (o : Out). Becomes o k t c.link.result)
    (ap (λ (e : Expr). step (Linked e (view_links c.in_ok-with.field-0) k) t) c.in_ok-with.ensures.first ∙ ap (λ (ls : Links). step (Linked (plain_expr c.args.chain.first.value) ls k) t) c.in_ok-with.ensures.links ∙ sym (give_link (plain_expr c.args.chain.first.value) (view_links c.args.chain) c.args.op (view_measured c.args.measured) k t))
    (c.link.ensures k)
