use Rattle.std.proofs.Common.{arith, refl, false}
use Rattle.py_syntax.specs.Tree.{dict}
use Rattle.py_syntax.specs.declared.expr.Expr.TheVariants as variant
use Rattle.py_parse_expr.specs.ExprViews.{view_entries}
use Rattle.py_parse_expr.proofs.View.ExprNodes.{boxed_makes, dict_is}
use Rattle.py_parse_expr.proofs.expr_nodes.dict.Goals as goal

pub returns : goal.returns
returns c = boxed_makes (dict (view_entries c.args.entries) c.args.comma) (variant.Dict c.args.entries.pairs c.args.comma) (c.over.result) (false) c.new.result c.new.ensures.expr c.new.ensures.height c.new.ensures.target (dict_is c.args.entries.pairs c.args.comma) (omega (arith, c.requires, c.over.ensures)) (refl)
