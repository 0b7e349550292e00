use Rattle.std.specs.Option.{option_map}
use Rattle.std.proofs.Common.{false}
use Rattle.py_syntax.specs.View.{plain_expr}
use Rattle.cov_pieces.specs.Words.{expr_words, maybe_words}
use Rattle.cov_pieces.proofs.Walks.{next, both_words}
use Rattle.cov_pieces.proofs.heads.assertion.Goals as goal

pub returns : goal.returns
returns c =
    next c.push.ensures (next (both_words (expr_words false (plain_expr c.args.test.now)) (maybe_words (option_map plain_expr c.args.why.now)) c.expr.ensures c.option.ensures) c.marked.ensures)
