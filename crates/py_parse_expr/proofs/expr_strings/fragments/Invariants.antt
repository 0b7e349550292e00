use Rattle.std.proofs.Common.{◌≡◌, take}
use Rattle.py_syntax.specs.View.{plain_fragments}
use Rattle.py_parse_expr.specs.ExprViews.{plains}
use Rattle.py_parse_expr.proofs.expr_strings.fragments.Given as goal

abbrev pub invariant-loop-text : goal.invariant-loop-text
invariant-loop-text l = plain_fragments l.fragments.items ≡ plains (take l.text-index l.texts)
