use Rattle.std.proofs.Common.{ap, ◌∙◌}
use Rattle.py_syntax.specs.View.{plain_fragments}
use Rattle.py_grammar.specs.Machine.{snoc_format}
use Rattle.py_parse_expr.specs.ExprViews.{plains, view_fields}
use Rattle.py_parse_expr.proofs.View.ExprNodes.{fragments_format, a_format_is, mixed_format, first_format}
use Rattle.py_parse_expr.proofs.expr_nodes.Strings.with_format.Goals as goal

pub returns-in_ok-push-in-Plain-clause-view : goal.returns-in_ok-push-in-Plain-clause-view
returns-in_ok-push-in-Plain-clause-view c = rw c.in-Plain.is (ap plain_fragments c.in_ok-push-in-Plain.ensures.items ∙ fragments_format c.in_ok-all-in-Plain.all.items _ (view_fields c.args.fields) (a_format_is c.args.fields.parts) ∙ ap (λ fs. snoc_format fs (view_fields c.args.fields)) (c.in_ok-all-in-Plain.ensures ∙ ap plains c.deref.ensures.value))

pub returns-in_ok-push-in-Mixed-clause-view : goal.returns-in_ok-push-in-Mixed-clause-view
returns-in_ok-push-in-Mixed-clause-view c = rw c.in-Mixed.is (ap plain_fragments c.in_ok-push-in-Mixed.ensures.items ∙ fragments_format c.in-Mixed.fragments.items _ (view_fields c.args.fields) (a_format_is c.args.fields.parts))

pub returns-in_ok-push-in-Plain-clause-valid : goal.returns-in_ok-push-in-Plain-clause-valid
returns-in_ok-push-in-Plain-clause-valid c = first_format c.in-Plain.texts.items (plain_fragments c.push.new.self.items) (view_fields c.args.fields) c.args.fields.height (ap plain_fragments c.in_ok-push-in-Plain.ensures.items ∙ fragments_format c.in_ok-all-in-Plain.all.items _ (view_fields c.args.fields) (a_format_is c.args.fields.parts) ∙ ap (λ fs. snoc_format fs (view_fields c.args.fields)) (c.in_ok-all-in-Plain.ensures ∙ ap plains c.deref.ensures.value)) c.requires.fields

pub returns-in_ok-push-in-Mixed-clause-valid : goal.returns-in_ok-push-in-Mixed-clause-valid
returns-in_ok-push-in-Mixed-clause-valid c =
    let valid = rw c.in-Mixed.is at c.requires.valid in
    mixed_format (plain_fragments c.in-Mixed.fragments.items) (plain_fragments c.push-in-Mixed.new.self.items) (view_fields c.args.fields) c.in-Mixed.height c.args.fields.height c.higher.result (ap plain_fragments c.in_ok-push-in-Mixed.ensures.items ∙ fragments_format c.in-Mixed.fragments.items _ (view_fields c.args.fields) (a_format_is c.args.fields.parts)) valid.1 c.requires.fields c.higher.ensures
