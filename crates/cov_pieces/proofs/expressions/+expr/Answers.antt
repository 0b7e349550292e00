use Rattle.std.proofs.Common.{false, [], ◌∷◌, ◌++◌, refl, ap, sym, ◌∙◌}
use Rattle.py_syntax.specs.declared.expr.Pair.{out-Pair}
use Rattle.py_syntax.specs.View.{plain_expr, plain_exprs, plain_pairs, plain_links, plain_fragments, plain_parts}
use Rattle.cov_pieces.specs.Pieces.{words}
use Rattle.cov_pieces.specs.Views.{bound_end, in_fragments, in_parts}
use Rattle.cov_pieces.specs.Words.{a_number, truth, expr_words, exprs_words, pairs_words, links_words, fragments_words, parts_words}
use Rattle.cov_pieces.proofs.Gathered.{words-both}
use Rattle.cov_pieces.proofs.Nodes.{name-is, int-is, str-is, fstr-is, none-is, bool-is, tuple-is, list-is, dict-is, paren-is, not-is, and-is, or-is, unary-is, binary-is, compare-is, cond-is, call-is, index-is, slice-is, attr-is, plain_fragment-is, format-is, chars-is, field-is}
use Rattle.cov_pieces.proofs.Steps.{pair_words, pairs-step, link_words, links-step}
use Rattle.cov_pieces.proofs.Walks.{next, both_words, and_word, number_is, said, begun, turns, turns_first, ends_with}
use Rattle.cov_pieces.proofs.expressions.+expr.Goals as goal

pub expr-returns-in-Name : goal.expr-returns-in-Name
expr-returns-in-Name t c =
    said (expr_words c.args.binds) (name-is c.args.e.now _ c.in-Name.is) (next c.number.ensures c.named.ensures)

pub expr-returns-in-Int : goal.expr-returns-in-Int
expr-returns-in-Int t c =
    said (expr_words c.args.binds) (int-is c.args.e.now _ c.in-Int.is) (next c.number-in-Int.ensures c.push.ensures)

pub expr-returns-in-Str : goal.expr-returns-in-Str
expr-returns-in-Str t c =
    said (expr_words c.args.binds) (str-is c.args.e.now _ _ c.in-Str.is c.deref.ensures.value) (next c.number-in-Str.ensures c.texts.ensures)

pub expr-returns-in-FStr : goal.expr-returns-in-FStr
expr-returns-in-FStr t c =
    said (expr_words c.args.binds) (fstr-is c.args.e.now _ _ c.in-FStr.is c.deref-in-FStr.ensures.value) (next c.number-in-FStr.ensures c.fragments.ensures)

pub expr-returns-in-None : goal.expr-returns-in-None
expr-returns-in-None t c =
    said (expr_words c.args.binds) (none-is c.args.e.now c.in-None.is) c.number-in-None.ensures

pub expr-returns-in-Bool : goal.expr-returns-in-Bool
expr-returns-in-Bool t c =
    said (expr_words c.args.binds) (bool-is c.args.e.now _ c.in-Bool.is) (next c.number-in-Bool.ensures c.truth.ensures)

pub expr-returns-in-Tuple : goal.expr-returns-in-Tuple
expr-returns-in-Tuple t c =
    said (expr_words c.args.binds) (tuple-is c.args.e.now _ _ _ c.in-Tuple.is c.deref-in-Tuple.ensures.value) (next c.number-in-Tuple.ensures c.listed.ensures)

pub expr-returns-in-List : goal.expr-returns-in-List
expr-returns-in-List t c =
    said (expr_words c.args.binds) (list-is c.args.e.now _ _ _ c.in-List.is c.deref-in-List.ensures.value) (next c.number-in-List.ensures c.listed-in-List.ensures)

pub expr-returns-in-Dict : goal.expr-returns-in-Dict
expr-returns-in-Dict t c =
    said (expr_words c.args.binds) (dict-is c.args.e.now _ _ _ c.in-Dict.is c.deref-in-Dict.ensures.value)
    (next c.number-in-Dict.ensures (and_word (pairs_words (plain_pairs c.deref-in-Dict.result.now)) c.pairs.ensures c.truth-in-Dict.ensures))

pub expr-returns-in-Paren : goal.expr-returns-in-Paren
expr-returns-in-Paren t c =
    said (expr_words c.args.binds) (paren-is c.args.e.now _ _ c.in-Paren.is c.deref-in-Paren.ensures) (next c.number-in-Paren.ensures c.expr.ensures)

pub expr-returns-in-Not : goal.expr-returns-in-Not
expr-returns-in-Not t c =
    said (expr_words c.args.binds) (not-is c.args.e.now _ _ c.in-Not.is c.deref-in-Not.ensures) (next c.number-in-Not.ensures c.expr-in-Not.ensures)

pub expr-returns-in-And : goal.expr-returns-in-And
expr-returns-in-And t c =
    said (expr_words c.args.binds) (and-is c.args.e.now _ _ _ _ c.in-And.is c.deref-in-And.ensures c.deref-in-And-2.ensures)
    (next c.number-in-And.ensures (both_words (expr_words false (plain_expr c.deref-in-And.result.now)) (expr_words false (plain_expr c.deref-in-And-2.result.now)) c.expr-in-And.ensures c.expr-in-And-2.ensures))

pub expr-returns-in-Or : goal.expr-returns-in-Or
expr-returns-in-Or t c =
    said (expr_words c.args.binds) (or-is c.args.e.now _ _ _ _ c.in-Or.is c.deref-in-Or.ensures c.deref-in-Or-2.ensures)
    (next c.number-in-Or.ensures (both_words (expr_words false (plain_expr c.deref-in-Or.result.now)) (expr_words false (plain_expr c.deref-in-Or-2.result.now)) c.expr-in-Or.ensures c.expr-in-Or-2.ensures))

pub expr-returns-in-Index : goal.expr-returns-in-Index
expr-returns-in-Index t c =
    said (expr_words c.args.binds) (index-is c.args.e.now _ _ _ _ c.in-Index.is c.deref-in-Index.ensures c.deref-in-Index-2.ensures)
    (next c.number-in-Index.ensures (both_words (expr_words false (plain_expr c.deref-in-Index.result.now)) (expr_words false (plain_expr c.deref-in-Index-2.result.now)) c.expr-in-Index.ensures c.expr-in-Index-2.ensures))

pub expr-returns-in-Unary : goal.expr-returns-in-Unary
expr-returns-in-Unary t c =
    said (expr_words c.args.binds) (unary-is c.args.e.now _ _ _ c.in-Unary.is c.deref-in-Unary.ensures)
    (next c.number-in-Unary.ensures (next (number_is c.sign_number.ensures c.number-in-Unary-2.ensures) c.expr-in-Unary.ensures))

pub expr-returns-in-Binary : goal.expr-returns-in-Binary
expr-returns-in-Binary t c =
    said (expr_words c.args.binds) (binary-is c.args.e.now _ _ _ _ _ c.in-Binary.is c.deref-in-Binary.ensures c.deref-in-Binary-2.ensures)
    (next c.number-in-Binary.ensures (next (number_is c.operator_number.ensures c.number-in-Binary-2.ensures) (both_words (expr_words false (plain_expr c.deref-in-Binary.result.now)) (expr_words false (plain_expr c.deref-in-Binary-2.result.now)) c.expr-in-Binary.ensures c.expr-in-Binary-2.ensures)))

pub expr-returns-in-Compare : goal.expr-returns-in-Compare
expr-returns-in-Compare t c =
    said (expr_words c.args.binds) (compare-is c.args.e.now _ _ _ _ c.in-Compare.is c.deref-in-Compare.ensures c.deref-in-Compare-2.ensures.value)
    (next c.number-in-Compare.ensures (both_words (expr_words false (plain_expr c.deref-in-Compare.result.now)) (links_words (plain_links c.deref-in-Compare-2.result.now)) c.expr-in-Compare.ensures c.links.ensures))

pub expr-returns-in-Cond : goal.expr-returns-in-Cond
expr-returns-in-Cond t c =
    said (expr_words c.args.binds) (cond-is c.args.e.now _ _ _ _ _ _ c.in-Cond.is c.deref-in-Cond.ensures c.deref-in-Cond-2.ensures c.deref-in-Cond-3.ensures)
    (next c.number-in-Cond.ensures (both_words (expr_words false (plain_expr c.deref-in-Cond.result.now)) (expr_words false (plain_expr c.deref-in-Cond-2.result.now) ++ expr_words false (plain_expr c.deref-in-Cond-3.result.now)) c.expr-in-Cond.ensures
    (both_words (expr_words false (plain_expr c.deref-in-Cond-2.result.now)) (expr_words false (plain_expr c.deref-in-Cond-3.result.now)) c.expr-in-Cond-2.ensures c.expr-in-Cond-3.ensures)))

pub expr-returns-in-Call : goal.expr-returns-in-Call
expr-returns-in-Call t c =
    said (expr_words c.args.binds) (call-is c.args.e.now _ _ _ _ _ c.in-Call.is c.deref-in-Call.ensures c.deref-in-Call-2.ensures.value)
    (next c.number-in-Call.ensures (both_words (expr_words false (plain_expr c.deref-in-Call.result.now)) (exprs_words false (plain_exprs c.deref-in-Call-2.result.now) ++ truth c.in-Call.comma ∷ []) c.expr-in-Call.ensures c.listed-in-Call.ensures))

pub expr-returns-in-Slice : goal.expr-returns-in-Slice
expr-returns-in-Slice t c =
    said (expr_words c.args.binds) (slice-is c.args.e.now _ _ _ _ c.in-Slice.is c.deref-in-Slice.ensures)
    (next c.number-in-Slice.ensures (both_words (expr_words false (plain_expr c.deref-in-Slice.result.now)) (bound_end c.in-Slice.from ++ bound_end c.in-Slice.to) c.expr-in-Slice.ensures
    (both_words (bound_end c.in-Slice.from) (bound_end c.in-Slice.to) c.bound.ensures c.bound-in-Slice.ensures)))

pub expr-returns-in-Attr : goal.expr-returns-in-Attr
expr-returns-in-Attr t c =
    said (expr_words c.args.binds) (attr-is c.args.e.now _ _ _ c.in-Attr.is c.deref-in-Attr.ensures)
    (next c.number-in-Attr.ensures (and_word (expr_words false (plain_expr c.deref-in-Attr.result.now)) c.expr-in-Attr.ensures c.push-in-Attr.ensures))

pub listed-returns : goal.listed-returns
listed-returns t c =
    and_word (exprs_words c.args.binds (plain_exprs c.args.items.now)) c.exprs.ensures c.truth.ensures

pub bound-returns-in-None : goal.bound-returns-in-None
bound-returns-in-None t c =
    said bound_end c.in-None.is c.number.ensures

pub bound-returns-in-Some : goal.bound-returns-in-Some
bound-returns-in-Some t c =
    said bound_end c.in-Some.is (next c.number-in-Some.ensures (said (expr_words false) (sym (ap plain_expr c.deref.ensures)) c.expr.ensures))

pub exprs-loop-e-init : goal.exprs-loop-e-init
exprs-loop-e-init t c =
    begun refl

pub exprs-loop-e-preserved : goal.exprs-loop-e-preserved
exprs-loop-e-preserved t c =
    turns (λ xs. words (exprs_words c.args.binds (plain_exprs xs))) (λ xs. words (exprs_words c.args.binds (plain_exprs xs)))
    (λ x. words (a_number 1 ∷ expr_words c.args.binds (plain_expr x))) (λ x xs. words-both (a_number 1 ∷ expr_words c.args.binds (plain_expr x)) (exprs_words c.args.binds (plain_exprs xs)))
    c.args.items.now c.loop-e.e-index c.e-item.result c.loop-e-test.true c.e-item.is (next c.number.ensures c.expr.ensures) c.loop-e.invariant

pub exprs-returns : goal.exprs-returns
exprs-returns t c =
    ends_with (λ xs. words (exprs_words c.args.binds (plain_exprs xs))) c.args.items.now _ c.loop-e-test.false refl c.number-2.ensures c.loop-e.invariant

pub pairs-loop-pair-init : goal.pairs-loop-pair-init
pairs-loop-pair-init t c =
    begun refl

pub pairs-loop-pair-preserved : goal.pairs-loop-pair-preserved
pairs-loop-pair-preserved t c =
    turns (λ xs. words (pairs_words (plain_pairs xs))) (λ xs. words (pairs_words (plain_pairs xs)))
    (λ x. words (pair_words x)) (λ x xs. pairs-step x xs)
    c.args.items.now c.loop-pair.pair-index c.pair-item.result c.loop-pair-test.true c.pair-item.is (next c.number.ensures (both_words (expr_words false (plain_expr (out-Pair c.pair-item.result).key)) (expr_words false (plain_expr (out-Pair c.pair-item.result).value)) c.expr.ensures c.expr-in-loop-pair.ensures)) c.loop-pair.invariant

pub pairs-returns : goal.pairs-returns
pairs-returns t c =
    ends_with (λ xs. words (pairs_words (plain_pairs xs))) c.args.items.now _ c.loop-pair-test.false refl c.number-2.ensures c.loop-pair.invariant

pub links-loop-link-init : goal.links-loop-link-init
links-loop-link-init t c =
    begun refl

pub links-loop-link-preserved : goal.links-loop-link-preserved
links-loop-link-preserved t c =
    turns (λ xs. words (links_words (plain_links xs))) (λ xs. words (links_words (plain_links xs)))
    (λ x. words (link_words x)) (λ x xs. links-step x xs)
    c.args.items.now c.loop-link.link-index c.link-item.result c.loop-link-test.true c.link-item.is (next c.number.ensures (next (number_is c.comparison_number.ensures c.number-in-loop-link.ensures) c.expr.ensures)) c.loop-link.invariant

pub links-returns : goal.links-returns
links-returns t c =
    ends_with (λ xs. words (links_words (plain_links xs))) c.args.items.now _ c.loop-link-test.false refl c.number-2.ensures c.loop-link.invariant

pub fragments-loop-item-init : goal.fragments-loop-item-init
fragments-loop-item-init t c =
    begun refl

pub fragments-loop-item-preserved : goal.fragments-loop-item-preserved
fragments-loop-item-preserved t c =
    turns_first in_fragments c.args.items.now c.loop-item.item-index c.item-item.result c.loop-item-test.true c.item-item.is c.fragment.ensures c.loop-item.invariant

pub fragments-returns : goal.fragments-returns
fragments-returns t c =
    ends_with in_fragments c.args.items.now _ c.loop-item-test.false refl c.number.ensures c.loop-item.invariant

pub parts-loop-item-init : goal.parts-loop-item-init
parts-loop-item-init t c =
    begun refl

pub parts-loop-item-preserved : goal.parts-loop-item-preserved
parts-loop-item-preserved t c =
    turns_first in_parts c.args.items.now c.loop-item.item-index c.item-item.result c.loop-item-test.true c.item-item.is c.part.ensures c.loop-item.invariant

pub parts-returns : goal.parts-returns
parts-returns t c =
    ends_with in_parts c.args.items.now _ c.loop-item-test.false refl c.number.ensures c.loop-item.invariant

pub fragment-returns-in-Plain : goal.fragment-returns-in-Plain
fragment-returns-in-Plain t c =
    (_, next c.number.ensures c.push.ensures, λ fs. ap (λ z. words (fragments_words z)) (plain_fragment-is c.args.item.now _ fs c.in-Plain.is))

pub fragment-returns-in-Format : goal.fragment-returns-in-Format
fragment-returns-in-Format t c =
    (_, next c.number-in-Format.ensures c.parts.ensures, λ fs. ap (λ z. words (fragments_words z)) (format-is c.args.item.now _ _ fs c.in-Format.is c.deref.ensures.value) ∙ words-both (a_number 2 ∷ parts_words (plain_parts c.deref.result.now)) (fragments_words (plain_fragments fs)))

pub part-returns-in-Chars : goal.part-returns-in-Chars
part-returns-in-Chars t c =
    (_, next c.number.ensures c.push.ensures, λ ps. ap (λ z. words (parts_words z)) (chars-is c.args.item.now _ ps c.in-Chars.is))

pub part-returns-in-Field : goal.part-returns-in-Field
part-returns-in-Field t c =
    (_, next c.number-in-Field.ensures c.expr.ensures, λ ps. ap (λ z. words (parts_words z)) (field-is c.args.item.now _ ps c.in-Field.is) ∙ words-both (a_number 2 ∷ expr_words false (plain_expr c.in-Field.e)) (parts_words (plain_parts ps)))
