use Rattle.std.proofs.Common.{◌∙◌, None, sym}
use Rattle.py_statements.specs.Machine.{Leaving, act, left}
use Rattle.py_statements.specs.ViewStates.{kind_at, first_at, last_at, view_span, view_suites}
use Rattle.py_statements.proofs.View.Acts.{leaving_makes}
use Rattle.py_statements.proofs.in_statement.after_leaving.Goals as goal

pub returns-then-is_a : goal.returns-then-is_a
returns-then-is_a c =
    let a = c.args in
    let t = a.token.now in
    let makes = leaving_makes a.raises (view_span a.span) (view_suites a.suites) (kind_at t) (first_at t) (last_at t) c.end_made.result (sym c.is_a.ensures ∙ c.if-is_a.true) (c.end_made.ensures (left a.raises None) c.left-kind.ensures) in
    c.turned.ensures t (act (Leaving a.raises) (view_span a.span) (view_suites a.suites) (kind_at t) (first_at t) (last_at t)) makes
