use Rattle.std.proofs.Common.{[], ◌∷◌}
use Rattle.py_syntax.specs.View.{plain_opt_suite, plain_clauses}
use Rattle.cov_pieces.specs.Pieces.{opt_fit, clauses_fit}
use Rattle.cov_pieces.proofs.Walks.{next, both_words}
use Rattle.cov_pieces.proofs.heads.begin_try.Goals as goal

pub returns : goal.returns
returns c =
    next c.push.ensures (next (next c.suite_fit.ensures (both_words (clauses_fit (plain_clauses c.args.clauses.now)) (opt_fit (plain_opt_suite c.args.orelse.now) ∷ opt_fit (plain_opt_suite c.args.finally.now) ∷ []) c.clauses_fit.ensures (next c.opt_fit.ensures c.opt_fit-2.ensures))) (next c.push-2.ensures c.push-3.ensures))
