use Rattle.std.proofs.Common.{List, ap, ◌∙◌}
use Rattle.py_syntax.specs.declared.stmt.Stmt.{Stmt}
use Rattle.py_syntax.specs.View.{plain_stmts}
use Rattle.py_changes.specs.Mutants.{stmts_mutants}
use Rattle.cov_places.specs.Counting.{counted}
use Rattle.cov_places.proofs.Counts.{all-counted}
use Rattle.cov_places.proofs.place_count.Goals as goal

pub returns : goal.returns
returns c =
    c.statements.ensures
    ∙ ap (λ (ss : List Stmt). counted 0 (stmts_mutants (plain_stmts ss))) c.deref.ensures.value
    ∙ all-counted (stmts_mutants (plain_stmts c.args.module.now.body.items))
