use Rattle.std.proofs.Common.{ap, ◌∙◌}
use Rattle.py_syntax.specs.View.{plain_fragments}
use Rattle.py_parse_expr.specs.ExprViews.{plains}
use Rattle.py_parse_expr.proofs.View.ExprNodes.{plains_more, fragments_text, mixed_text}
use Rattle.py_parse_expr.proofs.expr_nodes.Strings.with_text.Goals as goal

pub returns-in_ok-push-in-Plain-clause-view : goal.returns-in_ok-push-in-Plain-clause-view
returns-in_ok-push-in-Plain-clause-view c = rw c.in-Plain.is (ap plains c.in_ok-push-in-Plain.ensures.items ∙ plains_more c.in-Plain.texts.items c.args.text)

pub returns-in_ok-push-in-Mixed-clause-view : goal.returns-in_ok-push-in-Mixed-clause-view
returns-in_ok-push-in-Mixed-clause-view c = rw c.in-Mixed.is (ap plain_fragments c.in_ok-push-in-Mixed.ensures.items ∙ fragments_text c.in-Mixed.fragments.items c.args.text)

pub returns-in_ok-push-in-Mixed-clause-valid : goal.returns-in_ok-push-in-Mixed-clause-valid
returns-in_ok-push-in-Mixed-clause-valid c =
    let valid = rw c.in-Mixed.is at c.requires in
    mixed_text (plain_fragments c.in-Mixed.fragments.items) (plain_fragments c.push-in-Mixed.new.self.items) c.args.text c.in-Mixed.height (ap plain_fragments c.in_ok-push-in-Mixed.ensures.items ∙ fragments_text c.in-Mixed.fragments.items c.args.text) valid
