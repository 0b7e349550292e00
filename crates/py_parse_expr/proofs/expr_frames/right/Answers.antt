use Rattle.std.proofs.Common.{sym, subst, ap, ◌∙◌}
use Rattle.py_syntax.specs.Tree.{Expr}
use Rattle.py_grammar.specs.TokenClasses.{joined}
use Rattle.py_grammar.specs.Machine.{on, first, give, Out}
use Rattle.py_parse_fields.specs.Frames.{view_precedence, view_operator}
use Rattle.py_parse_expr.specs.ExprViews.{view_measured, view_class}
use Rattle.py_parse_expr.specs.ExprTurns.{BecomesAs}
use Rattle.py_parse_expr.proofs.View.ExprFrames.{give_right}
use Rattle.py_parse_expr.proofs.expr_frames.right.Goals as goal

pub returns : goal.returns
returns c = λ k.
    let same = c.in_ok-measured.ensures.is in
    let precedence = c.precedence.ensures in
    let t = view_class c.args.class.now in
    subst (λ (o : Out). BecomesAs o k t c.operand.result)
    (ap (λ (e : Expr). give e (on (first (view_precedence c.precedence.result)) k) t) same ∙ ap (λ l. give (joined (view_operator c.args.operator) (view_measured c.args.left) (view_measured c.args.measured)) (on (first l) k) t) precedence ∙ sym (give_right (view_measured c.args.measured) (view_measured c.args.left) (view_operator c.args.operator) k t))
    (c.operand.ensures k)
