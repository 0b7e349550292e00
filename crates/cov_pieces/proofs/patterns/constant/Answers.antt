use Rattle.std.proofs.Common.{sym}
use Rattle.py_syntax.specs.View.{plain_constant}
use Rattle.cov_pieces.specs.Words.{constant_words, texts_words}
use Rattle.cov_pieces.proofs.Walks.{next, said}
use Rattle.cov_pieces.proofs.patterns.constant.Goals as goal

pub returns-in-Int : goal.returns-in-Int
returns-in-Int c =
    said (λ k. constant_words (plain_constant k)) c.in-Int.is (next c.number.ensures c.push.ensures)

pub returns-in-Str : goal.returns-in-Str
returns-in-Str c =
    said (λ k. constant_words (plain_constant k)) c.in-Str.is (next c.number-in-Str.ensures (said texts_words (sym c.deref.ensures.value) c.texts.ensures))

pub returns-in-None : goal.returns-in-None
returns-in-None c =
    said (λ k. constant_words (plain_constant k)) c.in-None.is c.number-in-None.ensures

pub returns-in-Bool : goal.returns-in-Bool
returns-in-Bool c =
    said (λ k. constant_words (plain_constant k)) c.in-Bool.is (next c.number-in-Bool.ensures c.truth.ensures)
