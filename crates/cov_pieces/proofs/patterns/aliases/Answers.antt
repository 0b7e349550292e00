use Rattle.std.proofs.Common.{◌∷◌, refl}
use Rattle.py_syntax.specs.View.{plain_alias, plain_aliases}
use Rattle.cov_pieces.specs.Pieces.{words}
use Rattle.cov_pieces.specs.Words.{a_number, list_words, alias_words}
use Rattle.cov_pieces.proofs.Gathered.{words-both}
use Rattle.cov_pieces.proofs.Walks.{next, begun, turns, ends_with}
use Rattle.cov_pieces.proofs.patterns.aliases.Goals as goal

pub loop-alias-init : goal.loop-alias-init
loop-alias-init c =
    begun refl

pub loop-alias-preserved : goal.loop-alias-preserved
loop-alias-preserved c =
    turns (λ xs. words (list_words alias_words (plain_aliases xs))) (λ xs. words (list_words alias_words (plain_aliases xs)))
    (λ x. words (a_number 1 ∷ alias_words (plain_alias x))) (λ x xs. words-both (a_number 1 ∷ alias_words (plain_alias x)) (list_words alias_words (plain_aliases xs)))
    c.args.names.now c.loop-alias.alias-index c.alias-item.result c.loop-alias-test.true c.alias-item.is (next c.number.ensures c.imported.ensures) c.loop-alias.invariant

pub returns : goal.returns
returns c =
    ends_with (λ xs. words (list_words alias_words (plain_aliases xs))) c.args.names.now _ c.loop-alias-test.false refl c.number-2.ensures c.loop-alias.invariant
