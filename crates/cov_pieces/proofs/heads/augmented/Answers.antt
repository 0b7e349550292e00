use Rattle.std.proofs.Common.{true, false, ◌∷◌}
use Rattle.py_syntax.specs.View.{plain_expr}
use Rattle.cov_pieces.specs.Words.{a_number, operator_number, expr_words}
use Rattle.cov_pieces.proofs.Walks.{next, both_words, number_is}
use Rattle.cov_pieces.proofs.heads.augmented.Goals as goal

pub returns : goal.returns
returns c =
    next c.push.ensures (next (both_words (expr_words true (plain_expr c.args.place.now)) (a_number (operator_number c.args.op) ∷ expr_words false (plain_expr c.args.value.now)) c.expr.ensures (next (number_is c.operator_number.ensures c.number.ensures) c.expr-2.ensures)) c.marked.ensures)
