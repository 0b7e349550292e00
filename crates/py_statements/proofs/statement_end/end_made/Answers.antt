use Rattle.std.proofs.Common.{◌≡◌, IfOk, subst}
use Rattle.py_statements.specs.ViewSuiteOf.{boxed_kind}
use Rattle.py_statements.specs.ViewStates.{MadeKind}
use Rattle.py_statements.proofs.View.Tails.{ends_so}
use Rattle.py_statements.proofs.statement_end.end_made.Goals as goal

pub returns-in-Ok : goal.returns-in-Ok
returns-in-Ok c k made =
    let is = subst (λ (m : MadeKind). IfOk m (λ w. boxed_kind w ≡ k)) c.in-Ok.is made in
    ends_so c.args.token.now (boxed_kind c.in-Ok.kind) k c.args.span c.args.suites c.end_simple.result is c.end_simple.ensures

pub returns-in-Err : goal.returns-in-Err
returns-in-Err c k made = tt
