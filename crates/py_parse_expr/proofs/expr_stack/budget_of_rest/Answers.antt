use Rattle.std.proofs.Common.{ap, ◌∙◌}
use Rattle.py_grammar.specs.Budgets.{under}
use Rattle.py_parse_expr.proofs.Least.Budgets.{rest_budget}
use Rattle.py_parse_expr.proofs.expr_stack.budget_of_rest.Goals as goal

pub returns : goal.returns
returns c = λ limit k low is. rest_budget limit k c.args.items.now c.args.outer (record { target = c.under.result; other = c.under-2.result; wants = c.both.result }) c.requires is low (c.under.ensures ∙ ap (under c.args.items.now.height) c.of.ensures) c.under-2.ensures c.both.ensures
