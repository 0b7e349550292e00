use Rattle.std.proofs.Common.{false}
use Rattle.py_syntax.specs.View.{plain_exprs}
use Rattle.cov_pieces.specs.Words.{exprs_words}
use Rattle.cov_pieces.proofs.Walks.{next, and_word}
use Rattle.cov_pieces.proofs.heads.definition.Goals as goal

pub returns : goal.returns
returns c =
    next c.push.ensures (next (next c.push-2.ensures (and_word (exprs_words false (plain_exprs c.args.defaults.now)) c.exprs.ensures c.truth.ensures)) c.marked.ensures)
