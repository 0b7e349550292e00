use Rattle.std.proofs.Common.{refl, ap, sym, ◌∙◌, List}
use Rattle.py_syntax.specs.declared.expr.Link.{out-Link}
use Rattle.py_syntax.specs.declared.expr.FormatPart.{FormatPart}
use Rattle.py_syntax.specs.Tree.{name, int, str, fstr, none, bool, tuple, list, dict, paren, not', and, or, unary, binary, compare, cond, call, index, slice, attr, exprs, pair, link, absent, present, plain, format, text, field}
use Rattle.py_syntax.specs.View.{plain_expr, plain_exprs, plain_pairs, plain_links, plain_fragments, plain_parts}
use Rattle.py_changes.specs.Mutants.{operator_change, comparison_change, number_change, truth_change, where_operands, expr_mutants, exprs_mutants, pairs_mutants, links_mutants, opt_mutants, fragments_mutants, parts_mutants}
use Rattle.cov_places.specs.Bounds.{plain_bound}
use Rattle.cov_places.specs.ItemRows.{put_expr, put_pair, put_link, put_fragment, put_part}
use Rattle.cov_places.proofs.Items.{exprs-step, pairs-step, links-step, fragments-step, parts-step, plain-put, format-put, chars-put, field-put}
use Rattle.cov_places.proofs.Forms.{name-is, int-is, str-is, none-is, bool-is, fstr-is, tuple-is, list-is, dict-is, paren-is, not-is, and-is, or-is, unary-is, binary-is, compare-is, cond-is, call-is, index-is, slice-is, attr-is}
use Rattle.cov_places.proofs.Counts.{count-none, count-one, count-two, count-three, counts-none, counts-one, counts-two, count-next, count-end, with_last, with_third}
use Rattle.cov_places.proofs.expr_counts.+count.Goals as goal

pub expr-returns-in-Name : goal.expr-returns-in-Name
expr-returns-in-Name t c =
    count-none expr_mutants _ _ (name _) (name-is c.args.e.now _ c.in-Name.is) refl

pub expr-returns-in-Int : goal.expr-returns-in-Int
expr-returns-in-Int t c =
    count-one expr_mutants number_change int _ _ _ _ (int-is c.args.e.now _ c.in-Int.is) refl c.one_more.ensures

pub expr-returns-in-Str : goal.expr-returns-in-Str
expr-returns-in-Str t c =
    count-none expr_mutants _ _ (str _) (str-is c.args.e.now _ _ c.in-Str.is refl) refl

pub expr-returns-in-FStr : goal.expr-returns-in-FStr
expr-returns-in-FStr t c =
    count-one expr_mutants fragments_mutants fstr _ _ _ _ (fstr-is c.args.e.now c.in-FStr.pieces _ c.in-FStr.is c.deref.ensures.value) refl c.fragments.ensures

pub expr-returns-in-None : goal.expr-returns-in-None
expr-returns-in-None t c =
    count-none expr_mutants _ _ none (none-is c.args.e.now c.in-None.is) refl

pub expr-returns-in-Bool : goal.expr-returns-in-Bool
expr-returns-in-Bool t c =
    count-one expr_mutants truth_change bool _ _ _ _ (bool-is c.args.e.now _ c.in-Bool.is) refl c.one_more-in-Bool.ensures

pub expr-returns-in-Tuple : goal.expr-returns-in-Tuple
expr-returns-in-Tuple t c =
    count-one expr_mutants exprs_mutants (with_last tuple _) _ _ _ _ (tuple-is c.args.e.now c.in-Tuple.items _ _ c.in-Tuple.is c.deref-in-Tuple.ensures.value) refl c.exprs.ensures

pub expr-returns-in-List : goal.expr-returns-in-List
expr-returns-in-List t c =
    count-one expr_mutants exprs_mutants (with_last list _) _ _ _ _ (list-is c.args.e.now c.in-List.items _ _ c.in-List.is c.deref-in-List.ensures.value) refl c.exprs-in-List.ensures

pub expr-returns-in-Dict : goal.expr-returns-in-Dict
expr-returns-in-Dict t c =
    count-one expr_mutants pairs_mutants (with_last dict _) _ _ _ _ (dict-is c.args.e.now c.in-Dict.items _ _ c.in-Dict.is c.deref-in-Dict.ensures.value) refl c.pairs.ensures

pub expr-returns-in-Paren : goal.expr-returns-in-Paren
expr-returns-in-Paren t c =
    count-one expr_mutants expr_mutants paren _ _ _ _ (paren-is c.args.e.now c.in-Paren.inner _ c.in-Paren.is c.deref-in-Paren.ensures) refl c.expr.ensures

pub expr-returns-in-Not : goal.expr-returns-in-Not
expr-returns-in-Not t c =
    count-one expr_mutants expr_mutants not' _ _ _ _ (not-is c.args.e.now c.in-Not.operand _ c.in-Not.is c.deref-in-Not.ensures) refl c.expr-in-Not.ensures

pub expr-returns-in-And : goal.expr-returns-in-And
expr-returns-in-And t c =
    count-two expr_mutants expr_mutants expr_mutants and _ _ _ _ _ _ (and-is c.args.e.now c.in-And.left c.in-And.right _ _ c.in-And.is c.deref-in-And.ensures c.deref-in-And-2.ensures) refl c.expr-in-And.ensures c.expr-in-And-2.ensures

pub expr-returns-in-Or : goal.expr-returns-in-Or
expr-returns-in-Or t c =
    count-two expr_mutants expr_mutants expr_mutants or _ _ _ _ _ _ (or-is c.args.e.now c.in-Or.left c.in-Or.right _ _ c.in-Or.is c.deref-in-Or.ensures c.deref-in-Or-2.ensures) refl c.expr-in-Or.ensures c.expr-in-Or-2.ensures

pub expr-returns-in-Unary : goal.expr-returns-in-Unary
expr-returns-in-Unary t c =
    count-one expr_mutants expr_mutants (unary c.in-Unary.field-0) _ _ _ _ (unary-is c.args.e.now _ c.in-Unary.operand _ c.in-Unary.is c.deref-in-Unary.ensures) refl c.expr-in-Unary.ensures

pub expr-returns-in-Binary : goal.expr-returns-in-Binary
expr-returns-in-Binary t c =
    count-three expr_mutants expr_mutants operator_change expr_mutants (λ a o b. binary o a b) _ _ _ _ _ _ _ _ (binary-is c.args.e.now _ c.in-Binary.left c.in-Binary.right _ _ c.in-Binary.is c.deref-in-Binary.ensures c.deref-in-Binary-2.ensures) refl c.expr-in-Binary.ensures c.one_more-in-Binary.ensures c.expr-in-Binary-2.ensures

pub expr-returns-in-Compare : goal.expr-returns-in-Compare
expr-returns-in-Compare t c =
    count-two expr_mutants expr_mutants links_mutants compare _ _ _ _ _ _ (compare-is c.args.e.now c.in-Compare.first c.in-Compare.rest _ _ c.in-Compare.is c.deref-in-Compare.ensures c.deref-in-Compare-2.ensures.value) refl c.expr-in-Compare.ensures c.links.ensures

pub expr-returns-in-Cond : goal.expr-returns-in-Cond
expr-returns-in-Cond t c =
    count-three expr_mutants expr_mutants expr_mutants expr_mutants cond _ _ _ _ _ _ _ _ (cond-is c.args.e.now c.in-Cond.body c.in-Cond.test c.in-Cond.orelse _ _ _ c.in-Cond.is c.deref-in-Cond.ensures c.deref-in-Cond-2.ensures c.deref-in-Cond-3.ensures) refl c.expr-in-Cond.ensures c.expr-in-Cond-2.ensures c.expr-in-Cond-3.ensures

pub expr-returns-in-Call : goal.expr-returns-in-Call
expr-returns-in-Call t c =
    count-two expr_mutants expr_mutants exprs_mutants (with_third call _) _ _ _ _ _ _ (call-is c.args.e.now c.in-Call.callee c.in-Call.args _ _ _ c.in-Call.is c.deref-in-Call.ensures c.deref-in-Call-2.ensures.value) refl c.expr-in-Call.ensures c.exprs-in-Call.ensures

pub expr-returns-in-Index : goal.expr-returns-in-Index
expr-returns-in-Index t c =
    count-two expr_mutants expr_mutants expr_mutants index _ _ _ _ _ _ (index-is c.args.e.now c.in-Index.of c.in-Index.place _ _ c.in-Index.is c.deref-in-Index.ensures c.deref-in-Index-2.ensures) refl c.expr-in-Index.ensures c.expr-in-Index-2.ensures

pub expr-returns-in-Slice : goal.expr-returns-in-Slice
expr-returns-in-Slice t c =
    count-three expr_mutants expr_mutants opt_mutants opt_mutants slice _ _ _ _ _ _ _ _ (slice-is c.args.e.now c.in-Slice.of c.in-Slice.from c.in-Slice.to _ c.in-Slice.is c.deref-in-Slice.ensures) refl c.expr-in-Slice.ensures c.bound.ensures c.bound-in-Slice.ensures

pub expr-returns-in-Attr : goal.expr-returns-in-Attr
expr-returns-in-Attr t c =
    count-one expr_mutants expr_mutants (with_last attr _) _ _ _ _ (attr-is c.args.e.now c.in-Attr.of _ _ c.in-Attr.is c.deref-in-Attr.ensures) refl c.expr-in-Attr.ensures

pub bound-returns-in-None : goal.bound-returns-in-None
bound-returns-in-None t c =
    count-none opt_mutants _ _ absent (ap plain_bound c.in-None.is) refl

pub bound-returns-in-Some : goal.bound-returns-in-Some
bound-returns-in-Some t c =
    count-one opt_mutants expr_mutants present _ _ _ _ (ap plain_bound c.in-Some.is ∙ ap (λ z. present (plain_expr z)) (sym c.deref.ensures)) refl c.expr.ensures

pub exprs-loop-e-preserved : goal.exprs-loop-e-preserved
exprs-loop-e-preserved t c =
    count-next exprs_mutants put_expr plain_exprs exprs-step _ _ _ c.args.items.now c.loop-e.e-index c.e-item.result c.loop-e-test.true c.e-item.is
    (counts-one exprs_mutants expr_mutants (put_expr c.e-item.result) exprs _ _ _ (λ r. refl) (λ r. refl) c.expr-count.ensures) c.loop-e.invariant

pub exprs-returns : goal.exprs-returns
exprs-returns t c =
    count-end exprs_mutants plain_exprs _ _ c.args.items.now c.loop-e.e-index refl c.loop-e-test.false c.loop-e.invariant

pub pairs-loop-pair-preserved : goal.pairs-loop-pair-preserved
pairs-loop-pair-preserved t c =
    count-next pairs_mutants put_pair plain_pairs pairs-step _ _ _ c.args.items.now c.loop-pair.pair-index c.pair-item.result c.loop-pair-test.true c.pair-item.is
    (counts-two pairs_mutants expr_mutants expr_mutants (put_pair c.pair-item.result) pair _ _ _ _ _ (λ r. refl) (λ r. refl) c.expr.ensures c.expr-count.ensures) c.loop-pair.invariant

pub pairs-returns : goal.pairs-returns
pairs-returns t c =
    count-end pairs_mutants plain_pairs _ _ c.args.items.now c.loop-pair.pair-index refl c.loop-pair-test.false c.loop-pair.invariant

pub links-loop-link-preserved : goal.links-loop-link-preserved
links-loop-link-preserved t c =
    count-next links_mutants put_link plain_links links-step _ _ _ c.args.items.now c.loop-link.link-index c.link-item.result c.loop-link-test.true c.link-item.is
    (counts-two links_mutants comparison_change (λ e. where_operands (out-Link c.link-item.result).op (expr_mutants e)) (put_link c.link-item.result) link _ _ _ _ _ (λ r. refl) (λ r. refl) c.comparison.ensures c.operand-count.ensures) c.loop-link.invariant

pub links-returns : goal.links-returns
links-returns t c =
    count-end links_mutants plain_links _ _ c.args.items.now c.loop-link.link-index refl c.loop-link-test.false c.loop-link.invariant

pub fragments-loop-piece-preserved : goal.fragments-loop-piece-preserved
fragments-loop-piece-preserved t c =
    count-next fragments_mutants put_fragment plain_fragments fragments-step _ _ _ c.args.items.now c.loop-piece.piece-index c.piece-item.result c.loop-piece-test.true c.piece-item.is
    c.fragment-count.ensures c.loop-piece.invariant

pub fragments-returns : goal.fragments-returns
fragments-returns t c =
    count-end fragments_mutants plain_fragments _ _ c.args.items.now c.loop-piece.piece-index refl c.loop-piece-test.false c.loop-piece.invariant

pub parts-loop-item-preserved : goal.parts-loop-item-preserved
parts-loop-item-preserved t c =
    count-next parts_mutants put_part plain_parts parts-step _ _ _ c.args.items.now c.loop-item.item-index c.item-item.result c.loop-item-test.true c.item-item.is
    c.part-count.ensures c.loop-item.invariant

pub parts-returns : goal.parts-returns
parts-returns t c =
    count-end parts_mutants plain_parts _ _ c.args.items.now c.loop-item.item-index refl c.loop-item-test.false c.loop-item.invariant

pub fragment-returns-in-Plain : goal.fragment-returns-in-Plain
fragment-returns-in-Plain t c =
    counts-none fragments_mutants (put_fragment c.args.piece.now) (plain _) _ (λ r. ap (λ z. put_fragment z r) c.in-Plain.is ∙ plain-put _ r) (λ r. refl)

pub fragment-returns-in-Format : goal.fragment-returns-in-Format
fragment-returns-in-Format t c =
    counts-one fragments_mutants parts_mutants (put_fragment c.args.piece.now) format _ _ _ (λ r. ap (λ z. put_fragment z r) c.in-Format.is ∙ format-put c.in-Format.items r ∙ ap (λ (z : List FormatPart). format (plain_parts z) r) (sym c.deref.ensures.value)) (λ r. refl) c.parts.ensures

pub part-returns-in-Chars : goal.part-returns-in-Chars
part-returns-in-Chars t c =
    counts-none parts_mutants (put_part c.args.item.now) (text _) _ (λ r. ap (λ z. put_part z r) c.in-Chars.is ∙ chars-put _ r) (λ r. refl)

pub part-returns-in-Field : goal.part-returns-in-Field
part-returns-in-Field t c =
    counts-one parts_mutants expr_mutants (put_part c.args.item.now) field _ _ _ (λ r. ap (λ z. put_part z r) c.in-Field.is ∙ field-put c.in-Field.e r) (λ r. refl) c.expr.ensures
