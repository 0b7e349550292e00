use Rattle.py_syntax.specs.View.{plain_arms}
use Rattle.cov_pieces.specs.Pieces.{arms_fit}
use Rattle.cov_pieces.proofs.Walks.{next, and_word}
use Rattle.cov_pieces.proofs.heads.begin_if.Goals as goal

pub returns : goal.returns
returns c =
    next c.push.ensures (next (and_word (arms_fit (plain_arms c.args.arms.now)) c.arms_fit.ensures c.opt_fit.ensures) c.push-2.ensures)
