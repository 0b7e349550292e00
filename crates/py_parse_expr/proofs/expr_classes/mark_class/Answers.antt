use Rattle.std.proofs.Common.{sym, ◌∙◌}
use Rattle.py_parse_expr.proofs.View.ExprClasses.{mark_plain}
use Rattle.py_parse_expr.proofs.expr_classes.mark_class.Goals as goal

pub returns : goal.returns
returns c = sym c.mark_symbol.ensures ∙ mark_plain c.args.mark
