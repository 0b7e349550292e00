use Rattle.std.proofs.Common.{true, false}
use Rattle.py_syntax.specs.View.{plain_expr}
use Rattle.cov_pieces.specs.Words.{expr_words}
use Rattle.cov_pieces.proofs.Walks.{next, both_words}
use Rattle.cov_pieces.proofs.heads.goes_over.Goals as goal

pub returns : goal.returns
returns c =
    next c.push.ensures (next (next c.number.ensures (both_words (expr_words true (plain_expr c.args.target.now)) (expr_words false (plain_expr c.args.over.now)) c.expr.ensures c.expr-2.ensures)) c.marked.ensures)
