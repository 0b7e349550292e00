use Rattle.std.proofs.Common.{refl, sym, subst, ◌∙◌}
use Rattle.py_syntax.specs.Normal.{LExpr}
use Rattle.py_grammar.specs.Machine.{made, on, post_rest, in_items, Out, begin}
use Rattle.py_parse_expr.specs.ExprViews.{view_class, view_opener, view_row}
use Rattle.py_parse_expr.specs.ExprStacks.{view_stack}
use Rattle.py_parse_expr.specs.ExprTurns.{Acts}
use Rattle.py_parse_expr.proofs.View.ExprSteps.{closed_items, open_items}
use Rattle.py_parse_expr.proofs.expr_brackets.in_items.Goals as goal

pub returns-then-closes : goal.returns-then-closes
returns-then-closes c =
    let k = view_stack c.args.stack.now in
    let t = view_class c.args.class in
    let o = view_opener c.args.opener in
    let es = view_row c.args.items in
    let whole = made o es c.args.comma in
    let other = begin LExpr (on (in_items o es) k) t in
    subst (λ (x : Out). Acts x c.args.stack.now.limit c.closed.new.stack c.closed.result) (sym (closed_items o es c.args.comma k (on post_rest k) t whole other (sym c.closes.ensures ∙ c.if-closes.true) refl refl)) (c.closed.ensures whole c.made-whole.ensures)

pub returns : goal.returns
returns c =
    let k = view_stack c.args.stack.now in
    let t = view_class c.args.class in
    let o = view_opener c.args.opener in
    let es = view_row c.args.items in
    let other = begin LExpr (on (in_items o es) k) t in
    subst (λ (x : Out). Acts x c.args.stack.now.limit c.begin_in.new.stack c.begin_in.result) (sym (open_items o es c.args.comma k t other (sym c.closes.ensures ∙ c.if-closes.false))) c.begin_in.ensures
