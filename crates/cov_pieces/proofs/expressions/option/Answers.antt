use Rattle.std.specs.Option.{option_map}
use Rattle.py_syntax.specs.View.{plain_expr}
use Rattle.cov_pieces.specs.Words.{maybe_words}
use Rattle.cov_pieces.proofs.Walks.{next, said}
use Rattle.cov_pieces.proofs.expressions.option.Goals as goal

pub returns-in-None : goal.returns-in-None
returns-in-None c =
    said (λ o. maybe_words (option_map plain_expr o)) c.in-None.is c.number.ensures

pub returns-in-Some : goal.returns-in-Some
returns-in-Some c =
    said (λ o. maybe_words (option_map plain_expr o)) c.in-Some.is (next c.number-in-Some.ensures c.expr.ensures)
