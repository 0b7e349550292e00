use Rattle.std.proofs.Common.{arith}
use Rattle.py_syntax.specs.Tree.{tuple}
use Rattle.py_syntax.specs.declared.expr.Expr.TheVariants as variant
use Rattle.py_parse_expr.specs.ExprViews.{view_row}
use Rattle.py_parse_expr.proofs.View.ExprNodes.{boxed_makes, tuple_is}
use Rattle.py_parse_expr.proofs.expr_nodes.tuple.Goals as goal

pub returns : goal.returns
returns c = boxed_makes (tuple (view_row c.args.items) c.args.comma) (variant.Tuple c.args.items.items c.args.comma) (c.over.result) (c.args.items.targets) c.new.result c.new.ensures.expr c.new.ensures.height c.new.ensures.target (tuple_is c.args.items.items c.args.comma) (let a = c.requires.height in omega (arith, c.over.ensures)) (c.requires.targets)
