use Rattle.std.proofs.Common.{[], ◌∷◌, refl, ap}
use Rattle.py_syntax.specs.declared.stmt.Case.{out-Case}
use Rattle.py_syntax.specs.View.{plain_suite, plain_cases}
use Rattle.py_scope.proofs.Forms.{plain-cases}
use Rattle.cov_pieces.specs.Pieces.{word, words, suite_fit, cases_fit}
use Rattle.cov_pieces.proofs.Walks.{begun, turns, ends_with}
use Rattle.cov_pieces.proofs.heads.cases_fit.Goals as goal

pub loop-case-init : goal.loop-case-init
loop-case-init c =
    begun refl

pub loop-case-preserved : goal.loop-case-preserved
loop-case-preserved c =
    turns (λ xs. words (cases_fit (plain_cases xs))) (λ xs. words (cases_fit (plain_cases xs)))
    (λ x. word (suite_fit (plain_suite (out-Case x).body)) ∷ []) (λ x xs. ap (λ z. words (cases_fit z)) (plain-cases x xs))
    c.args.items.now c.loop-case.case-index c.case-item.result c.loop-case-test.true c.case-item.is (c.suite_fit.ensures) c.loop-case.invariant

pub returns : goal.returns
returns c =
    ends_with (λ xs. words (cases_fit (plain_cases xs))) c.args.items.now _ c.loop-case-test.false refl c.number.ensures c.loop-case.invariant
