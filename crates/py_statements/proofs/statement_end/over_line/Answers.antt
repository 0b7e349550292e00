use Rattle.std.proofs.Common.{◌≡◌, IfOk, refl, subst}
use Rattle.py_statements.specs.Machine.{State, close}
use Rattle.py_statements.specs.ViewStates.{view_state, view_suites}
use Rattle.py_statements.proofs.View.Acts.{shared_line}
use Rattle.py_statements.proofs.statement_end.over_line.Goals as goal

pub returns-then-shares_line : goal.returns-then-shares_line
returns-then-shares_line c =
    let b = view_suites c.args.suites in
    subst (λ (v : State). IfOk c.close.result (λ s. view_state s ≡ v))
    (shared_line b c.shares_line.result c.args.last (close b c.args.last) c.shares_line.ensures c.if-shares_line.true refl)
    c.close.ensures
