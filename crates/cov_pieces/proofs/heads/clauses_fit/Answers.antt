use Rattle.std.proofs.Common.{[], ◌∷◌, refl, ap}
use Rattle.py_syntax.specs.declared.stmt.Clause.{out-Clause}
use Rattle.py_syntax.specs.View.{plain_suite, plain_clauses}
use Rattle.py_scope.proofs.Forms.{plain-clauses}
use Rattle.cov_pieces.specs.Pieces.{word, words, suite_fit, clauses_fit}
use Rattle.cov_pieces.proofs.Walks.{begun, turns, ends_with}
use Rattle.cov_pieces.proofs.heads.clauses_fit.Goals as goal

pub loop-clause-init : goal.loop-clause-init
loop-clause-init c =
    begun refl

pub loop-clause-preserved : goal.loop-clause-preserved
loop-clause-preserved c =
    turns (λ xs. words (clauses_fit (plain_clauses xs))) (λ xs. words (clauses_fit (plain_clauses xs)))
    (λ x. word (suite_fit (plain_suite (out-Clause x).body)) ∷ []) (λ x xs. ap (λ z. words (clauses_fit z)) (plain-clauses x xs))
    c.args.items.now c.loop-clause.clause-index c.clause-item.result c.loop-clause-test.true c.clause-item.is (c.suite_fit.ensures) c.loop-clause.invariant

pub returns : goal.returns
returns c =
    ends_with (λ xs. words (clauses_fit (plain_clauses xs))) c.args.items.now _ c.loop-clause-test.false refl c.number.ensures c.loop-clause.invariant
