use Rattle.py_syntax.specs.View.{plain_fragments}
use Rattle.py_parse_expr.proofs.View.ExprNodes.{plain_height, mixed_height}
use Rattle.py_parse_expr.proofs.expr_nodes.Strings.height.Goals as goal

pub returns-in-Plain : goal.returns-in-Plain
returns-in-Plain c = rw c.in-Plain.is (plain_height c.in-Plain.field-0.items)

pub returns-in-Mixed : goal.returns-in-Mixed
returns-in-Mixed c =
    let valid = rw c.in-Mixed.is at c.requires in
    rw c.in-Mixed.is (mixed_height (plain_fragments c.in-Mixed.field-0.items) c.in-Mixed.height c.over.result valid c.over.ensures)
