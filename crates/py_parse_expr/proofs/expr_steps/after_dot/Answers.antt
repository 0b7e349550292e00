use Rattle.py_syntax.specs.Tree.{attr}
use Rattle.py_parse_expr.specs.ExprViews.{view_measured}
use Rattle.py_parse_expr.proofs.expr_steps.after_dot.Goals as goal

pub returns-in-Name : goal.returns-in-Name
returns-in-Name c = rw c.in-Name.is (c.closed.ensures (attr (view_measured c.args.of) c.in-Name.text) c.attribute-whole.ensures)
