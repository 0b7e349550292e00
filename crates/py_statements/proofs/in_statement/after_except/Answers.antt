use Rattle.std.proofs.Common.{◌∙◌, sym}
use Rattle.py_syntax.specs.View.{plain_suite, plain_clauses}
use Rattle.py_statements.specs.Machine.{Except, act}
use Rattle.py_statements.specs.ViewStates.{kind_at, first_at, last_at, view_span, view_suites}
use Rattle.py_statements.proofs.View.Acts.{except_makes}
use Rattle.py_statements.proofs.in_statement.after_except.Goals as goal

pub returns-then-is_a : goal.returns-then-is_a
returns-then-is_a c =
    let a = c.args in
    let t = a.token.now in
    let body = plain_suite a.partial_try.body in
    let clauses = plain_clauses a.partial_try.clauses.items in
    let makes = except_makes body clauses (view_span a.span) (view_suites a.suites) (kind_at t) (first_at t) (last_at t) c.after_header.result (sym c.is_a.ensures ∙ c.if-is_a.true) c.after_header.ensures in
    c.turned.ensures t (act (Except body clauses) (view_span a.span) (view_suites a.suites) (kind_at t) (first_at t) (last_at t)) makes
