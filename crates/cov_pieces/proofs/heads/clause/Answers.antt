use Rattle.std.specs.Option.{option_map}
use Rattle.py_syntax.specs.View.{plain_expr}
use Rattle.cov_pieces.specs.Words.{maybe_words, bound_words}
use Rattle.cov_pieces.proofs.Walks.{next, both_words}
use Rattle.cov_pieces.proofs.heads.clause.Goals as goal

pub returns : goal.returns
returns c =
    next c.push.ensures (next (next c.number.ensures (both_words (maybe_words (option_map plain_expr c.args.kind.now)) (bound_words c.args.name.now) c.option.ensures c.exception.ensures)) c.marked.ensures)
