use Rattle.std.proofs.Common.{arith, refl, false}
use Rattle.py_syntax.specs.Tree.{call, list}
use Rattle.py_syntax.specs.declared.expr.Expr.TheVariants as variant
use Rattle.py_parse_expr.specs.ExprViews.{view_measured, view_row}
use Rattle.py_parse_expr.proofs.View.ExprNodes.{boxed_makes, call_is, list_is}
use Rattle.py_parse_expr.proofs.expr_nodes.made.Goals as goal

pub returns-in-Call : goal.returns-in-Call
returns-in-Call c =
    let valid = rw c.in-Call.is at c.requires.opener in
    let a = valid.height in
    let b = c.requires.items.height in
    rw c.in-Call.is (boxed_makes (call (view_measured c.in-Call.callee) (view_row c.args.items) c.args.comma) (variant.Call c.in-Call.callee.expr c.args.items.items c.args.comma) (c.over-height.result) (false) c.new.result c.new.ensures.expr c.new.ensures.height c.new.ensures.target (call_is c.in-Call.callee.expr c.args.items.items c.args.comma) (omega (arith, c.higher.ensures, c.over-height.ensures)) (refl))

pub returns-in-List : goal.returns-in-List
returns-in-List c =
    let b = c.requires.items.height in
    rw c.in-List.is (boxed_makes (list (view_row c.args.items) c.args.comma) (variant.List c.args.items.items c.args.comma) (c.over.result) (c.args.items.targets) c.new-in-List.result c.new-in-List.ensures.expr c.new-in-List.ensures.height c.new-in-List.ensures.target (list_is c.args.items.items c.args.comma) (omega (arith, c.over.ensures)) (c.requires.items.targets))
