use Rattle.std.proofs.Common.{◌-◌, length}
use Rattle.py_parse_expr.specs.ExprReads.{goal_of}
use Rattle.py_grammar.proofs.View.Places.{kinds_of_all}
use Rattle.py_parse_expr.proofs.View.ExprReader.{Reading}
use Rattle.py_parse_expr.proofs.exprs.read_expr.Given as goal

abbrev pub invariant-tokens : goal.invariant-tokens
invariant-tokens l = Reading (goal_of l.fn.part) (kinds_of_all l.tokens) l.fn.at l.place l.progress l.stack

abbrev pub decreases-tokens : goal.decreases-tokens
decreases-tokens l = length l.tokens - l.place
