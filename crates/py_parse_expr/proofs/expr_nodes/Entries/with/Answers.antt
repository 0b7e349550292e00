use Rattle.std.proofs.Common.{ℕ, max, ap, ◌∙◌}
use Rattle.py_syntax.specs.declared.expr.Expr.{Expr as Node}
use Rattle.py_syntax.specs.View.{plain_expr, plain_pairs}
use Rattle.py_grammar.specs.Machine.{snoc_pair}
use Rattle.py_parse_expr.specs.ExprViews.{view_measured, view_entries}
use Rattle.py_parse_expr.proofs.View.ExprNodes.{pairs_more, entries_more}
use Rattle.py_parse_expr.proofs.expr_nodes.Entries.with.Goals as goal

pub returns-clause-pairs : goal.returns-clause-pairs
returns-clause-pairs c = ap plain_pairs c.in_ok-push.ensures.items ∙ pairs_more c.args.self.pairs.items c.into_inner.result c.into_inner-2.result ∙ ap (λ (n : Node). snoc_pair (view_entries c.args.self) (plain_expr n) (plain_expr c.into_inner-2.result)) c.into_inner.ensures ∙ ap (λ (n : Node). snoc_pair (view_entries c.args.self) (view_measured c.args.key) (plain_expr n)) c.into_inner-2.ensures

pub returns-clause-are : goal.returns-clause-are
returns-clause-are c = entries_more c.args.self (record { pairs = c.push.new.self; height = c.higher-2.result }) c.args.key c.args.value c.requires.are c.requires.key c.requires.value (ap plain_pairs c.in_ok-push.ensures.items ∙ pairs_more c.args.self.pairs.items c.into_inner.result c.into_inner-2.result ∙ ap (λ (n : Node). snoc_pair (view_entries c.args.self) (plain_expr n) (plain_expr c.into_inner-2.result)) c.into_inner.ensures ∙ ap (λ (n : Node). snoc_pair (view_entries c.args.self) (view_measured c.args.key) (plain_expr n)) c.into_inner-2.ensures) (c.higher-2.ensures ∙ ap (λ (n : ℕ). max c.args.self.height n) c.higher.ensures)
