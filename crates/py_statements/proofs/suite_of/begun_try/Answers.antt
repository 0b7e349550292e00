use Rattle.std.proofs.Common.{◌∙◌, ap, List, None}
use Rattle.py_syntax.specs.declared.stmt.Clause.{Clause}
use Rattle.py_syntax.specs.Tree.{try, no_suite}
use Rattle.py_syntax.specs.View.{plain_suite, plain_clauses}
use Rattle.py_statements.proofs.View.StmtKinds.{plain-Try}
use Rattle.py_statements.proofs.View.Tails.{boxes}
use Rattle.py_statements.proofs.suite_of.begun_try.Goals as goal

pub returns : goal.returns
returns c =
    let s = plain_suite c.args.body in
    let is = plain-Try c.args.body c.new.result None None ∙ ap (λ (cs : List Clause). try s (plain_clauses cs) no_suite no_suite) c.new.ensures.items in
    boxes c.boxed.result _ _ is c.boxed.ensures
