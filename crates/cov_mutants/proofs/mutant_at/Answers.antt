use Rattle.std.proofs.Common.{refl, sym, ap, ◌∙◌, Some, List}
use Rattle.py_syntax.specs.declared.stmt.Stmt.{Stmt}
use Rattle.py_syntax.specs.View.{plain_stmts}
use Rattle.cov_mutants.specs.MarksView.{at_line, marked}
use Rattle.cov_places.specs.PlaceView.{token_of}
use Rattle.cov_mutants_expr.specs.SearchView.{seen}
use Rattle.cov_mutants_expr.proofs.Copies.{copied-as}
use Rattle.cov_mutants.proofs.Reaching.{got, got-none}
use Rattle.cov_mutants.proofs.mutant_at.Goals as goal

pub returns-in-Left : goal.returns-in-Left
returns-in-Left c =
    let now = c.statements.new.at in
    got-none c.args.number _ (marked now) _ _ (copied-as (ap (λ (ss : List Stmt). plain_stmts ss) (sym c.deref.ensures.value)) refl c.in_ok-body.ensures) (ap (λ s. at_line now.line (seen s)) c.in-Left.is)

pub returns-in_ok-of_place-in-Found : goal.returns-in_ok-of_place-in-Found
returns-in_ok-of_place-in-Found c =
    let now = c.statements.new.at in
    ap Some c.in_ok-of_place-in-Found.ensures
    ∙ got c.args.number (marked now) _ _ (now.line, token_of c.in-Found.place) (copied-as (ap (λ (ss : List Stmt). plain_stmts ss) (sym c.deref.ensures.value)) refl c.in_ok-body.ensures) (ap (λ s. at_line now.line (seen s)) c.in-Found.is)
