use Rattle.std.proofs.Common.{ap, subst, Some}
use Rattle.py_syntax.specs.Tree.{Stmts}
use Rattle.py_syntax.specs.View.{plain_stmts}
use Rattle.py_statements.specs.ViewStates.{Opens}
use Rattle.py_statements.proofs.View.Acts.{close_made}
use Rattle.py_statements.proofs.View.OneMore.{plain-suite}
use Rattle.py_statements.proofs.suite_stack.SuiteStack.close.Goals as goal

pub returns : goal.returns
returns c =
    let o = c.in-Some.inner in
    let opens = subst (λ (ss : Stmts). Opens ss c.args.self.open.items c.innermost.new.others.items (Some o)) (ap plain_stmts c.deref.ensures.value) c.in-Some.ensures in
    close_made (plain_stmts c.args.self.body.items) c.args.self.open.items c.innermost.new.others.items c.args.last o c.into_inner.result _ c.over_suite.result opens c.into_inner.ensures (plain-suite o.span.first o.span.last o.inline c.args.self.body) c.over_suite.ensures
