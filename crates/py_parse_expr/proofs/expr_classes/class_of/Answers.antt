use Rattle.std.proofs.Common.{sym}
use Rattle.py_parse_expr.proofs.View.ExprClasses.{plain_fstring}
use Rattle.py_parse_expr.proofs.expr_classes.class_of.Goals as goal

pub returns-in-FString : goal.returns-in-FString
returns-in-FString c = rw c.in-FString.is (sym (plain_fstring c.in-FString.field-0))
