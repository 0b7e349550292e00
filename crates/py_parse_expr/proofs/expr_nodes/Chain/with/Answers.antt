use Rattle.std.proofs.Common.{ap, ◌∙◌, refl}
use Rattle.py_syntax.specs.declared.expr.Expr.{Expr as Node}
use Rattle.py_syntax.specs.View.{plain_expr, plain_links}
use Rattle.py_grammar.specs.Machine.{snoc_link}
use Rattle.py_parse_expr.specs.ExprViews.{view_links}
use Rattle.py_parse_expr.proofs.View.ExprNodes.{links_more, chain_more}
use Rattle.py_parse_expr.proofs.expr_nodes.Chain.with.Goals as goal

pub returns-clause-links : goal.returns-clause-links
returns-clause-links c = ap plain_links c.in_ok-push.ensures.items ∙ links_more c.args.self.links.items c.args.op c.into_inner.result ∙ ap (λ (n : Node). snoc_link (view_links c.args.self) c.args.op (plain_expr n)) c.into_inner.ensures

pub returns-clause-is : goal.returns-clause-is
returns-clause-is c = chain_more c.args.self (record { first = c.args.self.first; links = c.push.new.self; height = c.higher.result }) c.args.op c.args.right c.requires.is c.requires.right refl (ap plain_links c.in_ok-push.ensures.items ∙ links_more c.args.self.links.items c.args.op c.into_inner.result ∙ ap (λ (n : Node). snoc_link (view_links c.args.self) c.args.op (plain_expr n)) c.into_inner.ensures) c.higher.ensures
