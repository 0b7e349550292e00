use Rattle.std.proofs.Common.{arith, refl, false}
use Rattle.py_syntax.specs.Tree.{or, and, binary}
use Rattle.py_syntax.specs.declared.expr.Expr.TheVariants as variant
use Rattle.py_parse_expr.specs.ExprViews.{view_measured}
use Rattle.py_parse_expr.proofs.View.ExprNodes.{boxed_makes, or_is, and_is, binary_is}
use Rattle.py_parse_expr.proofs.expr_nodes.joined.Goals as goal

pub returns-in-Or : goal.returns-in-Or
returns-in-Or c = rw c.in-Or.is (boxed_makes (or (view_measured c.args.left) (view_measured c.args.right)) (variant.Or c.args.left.expr c.args.right.expr) (c.over-height.result) (false) c.new.result c.new.ensures.expr c.new.ensures.height c.new.ensures.target (or_is c.args.left.expr c.args.right.expr) (let a = c.requires.left.height in let b = c.requires.right.height in omega (arith, c.higher.ensures, c.over-height.ensures)) (refl))

pub returns-in-And : goal.returns-in-And
returns-in-And c = rw c.in-And.is (boxed_makes (and (view_measured c.args.left) (view_measured c.args.right)) (variant.And c.args.left.expr c.args.right.expr) (c.over-height.result) (false) c.new-in-And.result c.new-in-And.ensures.expr c.new-in-And.ensures.height c.new-in-And.ensures.target (and_is c.args.left.expr c.args.right.expr) (let a = c.requires.left.height in let b = c.requires.right.height in omega (arith, c.higher.ensures, c.over-height.ensures)) (refl))

pub returns-in-Op : goal.returns-in-Op
returns-in-Op c = rw c.in-Op.is (boxed_makes (binary c.in-Op.op (view_measured c.args.left) (view_measured c.args.right)) (variant.Binary c.in-Op.op c.args.left.expr c.args.right.expr) (c.over-height.result) (false) c.new-in-Op.result c.new-in-Op.ensures.expr c.new-in-Op.ensures.height c.new-in-Op.ensures.target (binary_is c.in-Op.op c.args.left.expr c.args.right.expr) (let a = c.requires.left.height in let b = c.requires.right.height in omega (arith, c.higher.ensures, c.over-height.ensures)) (refl))
