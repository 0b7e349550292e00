use Rattle.cov_pieces.specs.Words.{bound_words}
use Rattle.cov_pieces.proofs.Walks.{next, said}
use Rattle.cov_pieces.proofs.patterns.exception.Goals as goal

pub returns-in-None : goal.returns-in-None
returns-in-None c =
    said bound_words c.in-None.is c.number.ensures

pub returns-in-Some : goal.returns-in-Some
returns-in-Some c =
    said bound_words c.in-Some.is (next c.number-in-Some.ensures c.push.ensures)
