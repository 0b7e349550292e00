use Rattle.std.proofs.Common.{ap, ◌∙◌}
use Rattle.py_syntax.specs.declared.expr.Expr.{Expr as Node}
use Rattle.py_syntax.specs.View.{plain_expr, plain_exprs}
use Rattle.py_grammar.specs.Machine.{snoc}
use Rattle.py_parse_expr.specs.ExprViews.{view_row}
use Rattle.py_parse_expr.proofs.View.ExprNodes.{exprs_more, row_more}
use Rattle.py_parse_expr.proofs.expr_nodes.Row.with.Goals as goal

pub returns-clause-items : goal.returns-clause-items
returns-clause-items c = ap plain_exprs c.in_ok-push.ensures.items ∙ exprs_more c.args.self.items.items c.into_inner.result ∙ ap (λ (n : Node). snoc (view_row c.args.self) (plain_expr n)) c.into_inner.ensures

pub returns-clause-are : goal.returns-clause-are
returns-clause-are c = row_more c.args.self (record { items = c.push.new.self; height = c.higher.result; targets = c.both.result }) c.args.measured c.requires.are c.requires.is (ap plain_exprs c.in_ok-push.ensures.items ∙ exprs_more c.args.self.items.items c.into_inner.result ∙ ap (λ (n : Node). snoc (view_row c.args.self) (plain_expr n)) c.into_inner.ensures) c.higher.ensures c.both.ensures
