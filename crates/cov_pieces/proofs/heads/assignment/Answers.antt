use Rattle.std.proofs.Common.{true, false}
use Rattle.py_syntax.specs.View.{plain_expr, plain_exprs}
use Rattle.cov_pieces.specs.Words.{expr_words, exprs_words}
use Rattle.cov_pieces.proofs.Walks.{next, both_words}
use Rattle.cov_pieces.proofs.heads.assignment.Goals as goal

pub returns : goal.returns
returns c =
    next c.push.ensures (next (both_words (exprs_words true (plain_exprs c.args.targets.now)) (expr_words false (plain_expr c.args.value.now)) c.exprs.ensures c.expr.ensures) c.marked.ensures)
