use Rattle.std.proofs.Common.{◌∙◌, List, reverse, ap}
use Rattle.py_syntax.specs.declared.stmt.Stmt.{Stmt}
use Rattle.py_syntax.specs.declared.stmt.StmtKind.{StmtKind as KindNode}
use Rattle.py_syntax.specs.Tree.{Stmts}
use Rattle.py_syntax.specs.View.{plain_kind, plain_stmts}
use Rattle.py_statements.specs.Open.{add}
use Rattle.py_statements.specs.ViewStates.{suite_stack}
use Rattle.py_statements.proofs.View.OneMore.{stmts_snoc, block_added}
use Rattle.py_statements.proofs.suite_stack.SuiteStack.add.Goals as goal

pub returns : goal.returns
returns c =
    let a = c.args in
    let os = reverse a.self.open.items in
    let ss = plain_stmts a.self.body.items in
    ap (λ (xs : List Stmt). suite_stack (plain_stmts xs) os) c.in_ok-push.ensures.items
    ∙ ap (λ (xs : Stmts). suite_stack xs os) (stmts_snoc a.self.body.items _)
    ∙ block_added ss os a.first a.last (plain_kind c.into_inner-kind.result) a.end
    ∙ ap (λ (k : KindNode). add (suite_stack ss os) a.first a.last (plain_kind k) a.end) c.into_inner-kind.ensures
