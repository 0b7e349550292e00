use Rattle.std.proofs.Common.{[], ◌∷◌}
use Rattle.py_syntax.specs.View.{plain_opt_suite}
use Rattle.cov_pieces.specs.Pieces.{word, opt_fit}
use Rattle.cov_pieces.proofs.Walks.{told}
use Rattle.cov_pieces.proofs.heads.opt_fit.Goals as goal

pub returns-in-None : goal.returns-in-None
returns-in-None c =
    told (λ o. word (opt_fit (plain_opt_suite o)) ∷ []) c.in-None.is c.number.ensures

pub returns-in-Some : goal.returns-in-Some
returns-in-Some c =
    told (λ o. word (opt_fit (plain_opt_suite o)) ∷ []) c.in-Some.is c.suite_fit.ensures
