use Rattle.std.proofs.Common.{[], ◌∷◌, ap, sym, ◌∙◌}
use Rattle.py_syntax.specs.View.{plain_stmts}
use Rattle.py_scope.proofs.Forms.{plain-Suite}
use Rattle.cov_pieces.specs.Pieces.{word, suite_fit}
use Rattle.cov_pieces.specs.Words.{a_row}
use Rattle.cov_pieces.proofs.Walks.{as_pieces}
use Rattle.cov_pieces.proofs.heads.suite_fit.Goals as goal

pub returns : goal.returns
returns c =
    as_pieces (ap (λ xs. word (a_row (plain_stmts xs)) ∷ []) c.deref.ensures.value ∙ sym (ap (λ z. word (suite_fit z) ∷ []) (plain-Suite c.args.s.now))) c.push.ensures
