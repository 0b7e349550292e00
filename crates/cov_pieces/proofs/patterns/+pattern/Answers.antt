use Rattle.std.proofs.Common.{◌∷◌, refl}
use Rattle.py_syntax.specs.View.{plain_pattern, plain_patterns}
use Rattle.cov_pieces.specs.Pieces.{words}
use Rattle.cov_pieces.specs.Words.{a_number, pattern_words, patterns_words}
use Rattle.cov_pieces.proofs.Gathered.{words-both}
use Rattle.cov_pieces.proofs.Nodes.{literal-is, capture-is, wild-is, member-is, sequence-is, p_or-is, p_as-is, p_paren-is}
use Rattle.cov_pieces.proofs.Walks.{next, and_word, number_is, said, begun, turns, ends_with}
use Rattle.cov_pieces.proofs.patterns.+pattern.Goals as goal

pub pattern-returns-in-Literal : goal.pattern-returns-in-Literal
pattern-returns-in-Literal t c =
    said pattern_words (literal-is c.args.p.now _ _ c.in-Literal.is) (next c.number.ensures (next c.truth.ensures c.constant.ensures))

pub pattern-returns-in-Capture : goal.pattern-returns-in-Capture
pattern-returns-in-Capture t c =
    said pattern_words (capture-is c.args.p.now _ c.in-Capture.is) (next c.number-in-Capture.ensures c.push.ensures)

pub pattern-returns-in-Wild : goal.pattern-returns-in-Wild
pattern-returns-in-Wild t c =
    said pattern_words (wild-is c.args.p.now c.in-Wild.is) c.number-in-Wild.ensures

pub pattern-returns-in-Member : goal.pattern-returns-in-Member
pattern-returns-in-Member t c =
    said pattern_words (member-is c.args.p.now _ _ c.in-Member.is) (next c.number-in-Member.ensures (next c.push-in-Member.ensures c.push-in-Member-2.ensures))

pub pattern-returns-in-Sequence : goal.pattern-returns-in-Sequence
pattern-returns-in-Sequence t c =
    said pattern_words (sequence-is c.args.p.now _ _ _ _ c.in-Sequence.is c.deref.ensures.value)
    (next c.number-in-Sequence.ensures (next (number_is c.brackets_number.ensures c.number-in-Sequence-2.ensures) (and_word (patterns_words (plain_patterns c.deref.result.now)) c.patterns.ensures c.truth-in-Sequence.ensures)))

pub pattern-returns-in-Or : goal.pattern-returns-in-Or
pattern-returns-in-Or t c =
    said pattern_words (p_or-is c.args.p.now _ _ c.in-Or.is c.deref-in-Or.ensures.value) (next c.number-in-Or.ensures c.patterns-in-Or.ensures)

pub pattern-returns-in-As : goal.pattern-returns-in-As
pattern-returns-in-As t c =
    said pattern_words (p_as-is c.args.p.now _ _ _ c.in-As.is c.deref-in-As.ensures)
    (next c.number-in-As.ensures (and_word (pattern_words (plain_pattern c.deref-in-As.result.now)) c.pattern.ensures c.push-in-As.ensures))

pub pattern-returns-in-Paren : goal.pattern-returns-in-Paren
pattern-returns-in-Paren t c =
    said pattern_words (p_paren-is c.args.p.now _ _ c.in-Paren.is c.deref-in-Paren.ensures) (next c.number-in-Paren.ensures c.pattern-in-Paren.ensures)

pub patterns-loop-p-init : goal.patterns-loop-p-init
patterns-loop-p-init t c =
    begun refl

pub patterns-loop-p-preserved : goal.patterns-loop-p-preserved
patterns-loop-p-preserved t c =
    turns (λ xs. words (patterns_words (plain_patterns xs))) (λ xs. words (patterns_words (plain_patterns xs)))
    (λ x. words (a_number 1 ∷ pattern_words (plain_pattern x))) (λ x xs. words-both (a_number 1 ∷ pattern_words (plain_pattern x)) (patterns_words (plain_patterns xs)))
    c.args.items.now c.loop-p.p-index c.p-item.result c.loop-p-test.true c.p-item.is (next c.number.ensures c.pattern.ensures) c.loop-p.invariant

pub patterns-returns : goal.patterns-returns
patterns-returns t c =
    ends_with (λ xs. words (patterns_words (plain_patterns xs))) c.args.items.now _ c.loop-p-test.false refl c.number-2.ensures c.loop-p.invariant
