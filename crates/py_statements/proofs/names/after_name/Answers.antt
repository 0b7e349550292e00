use Rattle.std.proofs.Common.{◌∙◌, sym}
use Rattle.py_statements.specs.Listed.{listed}
use Rattle.py_statements.specs.ViewStates.{kind_at, last_at, view_span, view_suites, view_listed}
use Rattle.py_statements.proofs.View.Acts.{name_ends}
use Rattle.py_statements.proofs.names.after_name.Goals as goal

pub returns : goal.returns
returns c =
    let a = c.args in
    let t = a.token.now in
    name_ends (view_listed a.names) (view_span a.span) (view_suites a.suites) (kind_at t) (last_at t) c.end_made.result (sym c.is_a.ensures ∙ c.if-is_a.false) (c.end_made.ensures (listed (view_listed a.names)) c.listed.ensures)
