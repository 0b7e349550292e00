use Rattle.std.proofs.Common.{refl, true}
use Rattle.py_syntax.specs.Tree.{name}
use Rattle.py_syntax.specs.declared.expr.Expr.TheVariants as variant
use Rattle.py_parse_expr.proofs.View.ExprNodes.{boxed_makes, name_is}
use Rattle.py_parse_expr.proofs.expr_nodes.Measured.name.Goals as goal

pub returns : goal.returns
returns c = boxed_makes (name c.args.text) (variant.Name c.args.text) (1) (true) c.new.result c.new.ensures.expr c.new.ensures.height c.new.ensures.target (name_is c.args.text) (refl) (refl)
