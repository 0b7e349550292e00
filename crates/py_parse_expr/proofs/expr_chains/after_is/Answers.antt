use Rattle.std.proofs.Common.{subst}
use Rattle.py_syntax.specs.declared.expr.Comparison.TheVariants.{Is}
use Rattle.py_syntax.specs.Tree.{Expr}
use Rattle.py_syntax.specs.View.{plain_expr}
use Rattle.py_grammar.specs.Machine.{Ctx, snoc_link, Linked, Next}
use Rattle.py_parse_expr.specs.ExprViews.{view_links}
use Rattle.py_parse_expr.specs.ExprTurns.{Stays}
use Rattle.py_parse_expr.proofs.View.ExprNodes.{none_is, bool_is}
use Rattle.py_parse_expr.proofs.expr_chains.after_is.Goals as goal

pub returns-in-NoneWord : goal.returns-in-NoneWord
returns-in-NoneWord c = rw c.in-NoneWord.is (subst (λ (e : Expr). Stays (λ (k : Ctx). Next (Linked (plain_expr c.args.chain.first.value) (snoc_link (view_links c.args.chain) Is e) k)) c.constant.result) none_is c.constant.ensures)

pub returns-in-Bool : goal.returns-in-Bool
returns-in-Bool c = rw c.in-Bool.is (subst (λ (e : Expr). Stays (λ (k : Ctx). Next (Linked (plain_expr c.args.chain.first.value) (snoc_link (view_links c.args.chain) Is e) k)) c.constant-in-Bool.result) (bool_is c.in-Bool.truth) c.constant-in-Bool.ensures)
