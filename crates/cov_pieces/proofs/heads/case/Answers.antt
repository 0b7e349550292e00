use Rattle.std.specs.Option.{option_map}
use Rattle.py_syntax.specs.View.{plain_expr, plain_pattern}
use Rattle.cov_pieces.specs.Words.{maybe_words, pattern_words}
use Rattle.cov_pieces.proofs.Walks.{next, both_words}
use Rattle.cov_pieces.proofs.heads.case.Goals as goal

pub returns : goal.returns
returns c =
    next c.push.ensures (next (next c.number.ensures (both_words (pattern_words (plain_pattern c.args.p.now)) (maybe_words (option_map plain_expr c.args.guard.now)) c.pattern.ensures c.option.ensures)) c.marked.ensures)
