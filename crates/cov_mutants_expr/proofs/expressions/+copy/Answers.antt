use Rattle.std.proofs.Common.{refl, w64, rules}
use mir.Val.{SFits}
use Rattle.std.proofs.lemmas.Int.{to_z-of_z}
use Rattle.py_syntax.specs.Tree.{name, str, fstr, tuple, list, dict, paren, not', and, or, unary, binary, compare, cond, call, index, slice, attr}
use Rattle.py_syntax.specs.View.{plain_expr, plain_exprs, plain_pairs, plain_links, plain_fragments, plain_parts}
use Rattle.py_changes.specs.Mutants.{expr_mutants, exprs_mutants, pairs_mutants, links_mutants, opt_mutants, fragments_mutants}
use Rattle.cov_places.specs.Bounds.{plain_bound}
use Rattle.cov_mutants_expr.proofs.RowLaws.{goes_on, at_end}
use Rattle.cov_places.proofs.Items.{exprs-step, pairs-step, links-step, fragments-step, parts-step}
use Rattle.cov_places.proofs.Forms.{name-is, str-is, fstr-is, tuple-is, list-is, dict-is, paren-is, not-is, and-is, or-is, unary-is, binary-is, compare-is, cond-is, call-is, index-is, slice-is, attr-is}
use Rattle.cov_mutants_expr.proofs.FormLaws.{renamed, silent, made-one, made-two, made-three, none-copied, int-copied, bool-copied}
use Rattle.cov_mutants_expr.proofs.Turns.{expr-stepped, pair-stepped, link-stepped, plain-stepped, format-stepped, chars-stepped, field-stepped, a_bound}
use Rattle.cov_mutants_expr.proofs.expressions.+copy.Goals as goal

-- ---- an expression by its form

pub expr-returns-in-Name : goal.expr-returns-in-Name
expr-returns-in-Name t c = silent c.name.result _ _ (name _) (name-is c.args.e.now _ c.in-Name.is) refl c.name.ensures

pub expr-returns-in-Int : goal.expr-returns-in-Int
expr-returns-in-Int t c =
    let f : SFits w64 c.in-Int.n = search rules in let g : SFits w64 c.number.result = search rules in
    int-copied c.boxed.result _ _ c.args.e.now _ _ _ _ c.in-Int.is (to_z-of_z w64 c.in-Int.n f) (to_z-of_z w64 c.number.result g) c.number.ensures c.boxed.ensures

pub expr-returns-in-Str : goal.expr-returns-in-Str
expr-returns-in-Str t c = silent c.string.result _ _ (str _) (str-is c.args.e.now c.in-Str.pieces _ c.in-Str.is c.deref.ensures.value) refl c.string.ensures

pub expr-returns-in-FStr : goal.expr-returns-in-FStr
expr-returns-in-FStr t c = renamed c.fstr.result _ _ _ _ (fstr-is c.args.e.now c.in-FStr.pieces _ c.in-FStr.is c.deref-in-FStr.ensures.value)
    (made-one fragments_mutants (λ v. plain_fragments v.items) fstr _ _ _ c.fragments.result c.fstr.result refl c.fragments.ensures c.fstr.ensures)

pub expr-returns-in-None : goal.expr-returns-in-None
expr-returns-in-None t c = none-copied c.boxed-in-None.result _ c.args.e.now c.in-None.is c.boxed-in-None.ensures

pub expr-returns-in-Bool : goal.expr-returns-in-Bool
expr-returns-in-Bool t c = bool-copied c.boxed-in-Bool.result _ _ c.args.e.now _ _ c.in-Bool.is c.truth.ensures c.boxed-in-Bool.ensures

pub expr-returns-in-Tuple : goal.expr-returns-in-Tuple
expr-returns-in-Tuple t c = renamed c.tuple.result _ _ _ _ (tuple-is c.args.e.now c.in-Tuple.items c.in-Tuple.comma _ c.in-Tuple.is c.deref-in-Tuple.ensures.value)
    (made-one exprs_mutants (λ v. plain_exprs v.items) (λ es. tuple es c.in-Tuple.comma) _ _ _ c.exprs.result c.tuple.result refl c.exprs.ensures c.tuple.ensures)

pub expr-returns-in-List : goal.expr-returns-in-List
expr-returns-in-List t c = renamed c.list.result _ _ _ _ (list-is c.args.e.now c.in-List.items c.in-List.comma _ c.in-List.is c.deref-in-List.ensures.value)
    (made-one exprs_mutants (λ v. plain_exprs v.items) (λ es. list es c.in-List.comma) _ _ _ c.exprs-in-List.result c.list.result refl c.exprs-in-List.ensures c.list.ensures)

pub expr-returns-in-Dict : goal.expr-returns-in-Dict
expr-returns-in-Dict t c = renamed c.dict.result _ _ _ _ (dict-is c.args.e.now c.in-Dict.items c.in-Dict.comma _ c.in-Dict.is c.deref-in-Dict.ensures.value)
    (made-one pairs_mutants (λ v. plain_pairs v.items) (λ ps. dict ps c.in-Dict.comma) _ _ _ c.pairs.result c.dict.result refl c.pairs.ensures c.dict.ensures)

pub expr-returns-in-Paren : goal.expr-returns-in-Paren
expr-returns-in-Paren t c = renamed c.paren.result _ _ _ _ (paren-is c.args.e.now c.in-Paren.inner _ c.in-Paren.is c.deref-in-Paren.ensures)
    (made-one expr_mutants (λ b. plain_expr b.value) paren _ _ _ c.expr.result c.paren.result refl c.expr.ensures c.paren.ensures)

pub expr-returns-in-Not : goal.expr-returns-in-Not
expr-returns-in-Not t c = renamed c.not.result _ _ _ _ (not-is c.args.e.now c.in-Not.operand _ c.in-Not.is c.deref-in-Not.ensures)
    (made-one expr_mutants (λ b. plain_expr b.value) not' _ _ _ c.expr-in-Not.result c.not.result refl c.expr-in-Not.ensures c.not.ensures)

pub expr-returns-in_ok-left-in-And : goal.expr-returns-in_ok-left-in-And
expr-returns-in_ok-left-in-And t c = renamed c.and.result _ _ _ _ (and-is c.args.e.now c.in-And.left c.in-And.right _ _ c.in-And.is c.deref-in-And.ensures c.deref-in-And-2.ensures)
    (made-two expr_mutants (λ b. plain_expr b.value) and _ _ _ _ _ _ c.expr-in-And-2.result c.and.result refl c.in_ok-left-in-And.ensures c.expr-in-And-2.ensures c.and.ensures)

pub expr-returns-in_ok-left-in-Or : goal.expr-returns-in_ok-left-in-Or
expr-returns-in_ok-left-in-Or t c = renamed c.or.result _ _ _ _ (or-is c.args.e.now c.in-Or.left c.in-Or.right _ _ c.in-Or.is c.deref-in-Or.ensures c.deref-in-Or-2.ensures)
    (made-two expr_mutants (λ b. plain_expr b.value) or _ _ _ _ _ _ c.expr-in-Or-2.result c.or.result refl c.in_ok-left-in-Or.ensures c.expr-in-Or-2.ensures c.or.ensures)

pub expr-returns-in-Unary : goal.expr-returns-in-Unary
expr-returns-in-Unary t c = renamed c.unary.result _ _ _ _ (unary-is c.args.e.now _ c.in-Unary.operand _ c.in-Unary.is c.deref-in-Unary.ensures)
    (made-one expr_mutants (λ b. plain_expr b.value) (unary c.in-Unary.sign) _ _ _ c.expr-in-Unary.result c.unary.result refl c.expr-in-Unary.ensures c.unary.ensures)

pub expr-returns-in_ok-left-in-Binary : goal.expr-returns-in_ok-left-in-Binary
expr-returns-in_ok-left-in-Binary t c = renamed c.binary.result _ _ _ _ (binary-is c.args.e.now _ c.in-Binary.left c.in-Binary.right _ _ c.in-Binary.is c.deref-in-Binary.ensures c.deref-in-Binary-2.ensures)
    (made-three expr_mutants (λ b. plain_expr b.value) (λ a o b. binary o a b) _ _ _ _ _ _ _ _ _ c.expr-in-Binary-2.result c.binary.result refl c.in_ok-left-in-Binary.ensures c.operator-op.ensures c.expr-in-Binary-2.ensures c.binary.ensures)

pub expr-returns-in_ok-first-in-Compare : goal.expr-returns-in_ok-first-in-Compare
expr-returns-in_ok-first-in-Compare t c = renamed c.compare.result _ _ _ _ (compare-is c.args.e.now c.in-Compare.first c.in-Compare.rest _ _ c.in-Compare.is c.deref-in-Compare.ensures c.deref-in-Compare-2.ensures.value)
    (made-two links_mutants (λ v. plain_links v.items) compare _ _ _ _ _ _ c.links.result c.compare.result refl c.in_ok-first-in-Compare.ensures c.links.ensures c.compare.ensures)

pub expr-returns-in_ok-test-in-Cond : goal.expr-returns-in_ok-test-in-Cond
expr-returns-in_ok-test-in-Cond t c = renamed c.cond.result _ _ _ _ (cond-is c.args.e.now c.in-Cond.body c.in-Cond.test c.in-Cond.orelse _ _ _ c.in-Cond.is c.deref-in-Cond.ensures c.deref-in-Cond-2.ensures c.deref-in-Cond-3.ensures)
    (made-three expr_mutants (λ b. plain_expr b.value) cond _ _ _ _ _ _ _ _ _ c.expr-in-Cond-3.result c.cond.result refl c.in_ok-body-in-Cond.ensures c.in_ok-test-in-Cond.ensures c.expr-in-Cond-3.ensures c.cond.ensures)

pub expr-returns-in_ok-callee-in-Call : goal.expr-returns-in_ok-callee-in-Call
expr-returns-in_ok-callee-in-Call t c = renamed c.call.result _ _ _ _ (call-is c.args.e.now c.in-Call.callee c.in-Call.args _ _ _ c.in-Call.is c.deref-in-Call.ensures c.deref-in-Call-2.ensures.value)
    (made-two exprs_mutants (λ v. plain_exprs v.items) (λ f es. call f es c.in-Call.comma) _ _ _ _ _ _ c.exprs-in-Call.result c.call.result refl c.in_ok-callee-in-Call.ensures c.exprs-in-Call.ensures c.call.ensures)

pub expr-returns-in_ok-of-in-Index : goal.expr-returns-in_ok-of-in-Index
expr-returns-in_ok-of-in-Index t c = renamed c.index.result _ _ _ _ (index-is c.args.e.now c.in-Index.of c.in-Index.place _ _ c.in-Index.is c.deref-in-Index.ensures c.deref-in-Index-2.ensures)
    (made-two expr_mutants (λ b. plain_expr b.value) index _ _ _ _ _ _ c.expr-in-Index-2.result c.index.result refl c.in_ok-of-in-Index.ensures c.expr-in-Index-2.ensures c.index.ensures)

pub expr-returns-in_ok-from-in-Slice : goal.expr-returns-in_ok-from-in-Slice
expr-returns-in_ok-from-in-Slice t c = renamed c.slice.result _ _ _ _ (slice-is c.args.e.now c.in-Slice.of c.in-Slice.from c.in-Slice.to _ c.in-Slice.is c.deref-in-Slice.ensures)
    (made-three opt_mutants plain_bound slice _ _ _ _ _ _ _ _ _ c.bound-in-Slice.result c.slice.result refl c.in_ok-of-in-Slice.ensures c.in_ok-from-in-Slice.ensures c.bound-in-Slice.ensures c.slice.ensures)

pub expr-returns-in-Attr : goal.expr-returns-in-Attr
expr-returns-in-Attr t c = renamed c.attr.result _ _ _ _ (attr-is c.args.e.now c.in-Attr.of _ _ c.in-Attr.is c.deref-in-Attr.ensures)
    (made-one expr_mutants (λ b. plain_expr b.value) (λ f. attr f c.in-Attr.x) _ _ _ c.expr-in-Attr.result c.attr.result refl c.expr-in-Attr.ensures c.attr.ensures)

pub bound-returns-in_ok-expr-in-Some : goal.bound-returns-in_ok-expr-in-Some
bound-returns-in_ok-expr-in-Some t c = a_bound _ _ c.args.e.now _ _ _ c.in-Some.is c.deref.ensures c.in_ok-expr-in-Some.ensures

-- ---- rows

pub exprs-loop-e-preserved : goal.exprs-loop-e-preserved
exprs-loop-e-preserved t c = goes_on plain_exprs exprs-step _ _ _ _ c.args.items.now c.loop-e.e-index c.e-item.result _ _ c.loop-e-test.true c.e-item.is
    (expr-stepped c.expr.result _ _ c.e-item.result _ _ c.expr.ensures c.in_ok-add_expr.ensures) c.loop-e.invariant

pub exprs-returns : goal.exprs-returns
exprs-returns t c = at_end plain_exprs exprs-step refl _ _ c.args.items.now c.loop-e.e-index _ c.loop-e-test.false c.loop-e.invariant

pub pairs-loop-pair-preserved : goal.pairs-loop-pair-preserved
pairs-loop-pair-preserved t c = goes_on plain_pairs pairs-step _ _ _ _ c.args.items.now c.loop-pair.pair-index c.pair-item.result _ _ c.loop-pair-test.true c.pair-item.is
    (pair-stepped c.expr-in-loop-pair.result _ _ _ c.pair-item.result _ _ _ refl refl _ _ c.in_ok-key.ensures c.expr-in-loop-pair.ensures c.in_ok-add_pair.ensures) c.loop-pair.invariant

pub pairs-returns : goal.pairs-returns
pairs-returns t c = at_end plain_pairs pairs-step refl _ _ c.args.items.now c.loop-pair.pair-index _ c.loop-pair-test.false c.loop-pair.invariant

pub links-loop-link-preserved : goal.links-loop-link-preserved
links-loop-link-preserved t c = goes_on plain_links links-step _ _ _ _ c.args.items.now c.loop-link.link-index c.link-item.result _ _ c.loop-link-test.true c.link-item.is
    (link-stepped c.compared.result _ _ _ c.link-item.result _ _ _ _ refl refl refl _ _ c.comparison-op.ensures c.compared.ensures c.in_ok-add_link.ensures) c.loop-link.invariant

pub links-returns : goal.links-returns
links-returns t c = at_end plain_links links-step refl _ _ c.args.items.now c.loop-link.link-index _ c.loop-link-test.false c.loop-link.invariant

pub fragments-loop-piece-preserved : goal.fragments-loop-piece-preserved
fragments-loop-piece-preserved t c = goes_on plain_fragments fragments-step _ _ _ _ c.args.items.now c.loop-piece.piece-index c.piece-item.result _ _ c.loop-piece-test.true c.piece-item.is
    c.in_ok-fragment.ensures c.loop-piece.invariant

pub fragments-returns : goal.fragments-returns
fragments-returns t c = at_end plain_fragments fragments-step refl _ _ c.args.items.now c.loop-piece.piece-index _ c.loop-piece-test.false c.loop-piece.invariant

pub parts-loop-item-preserved : goal.parts-loop-item-preserved
parts-loop-item-preserved t c = goes_on plain_parts parts-step _ _ _ _ c.args.items.now c.loop-item.item-index c.item-item.result _ _ c.loop-item-test.true c.item-item.is
    c.in_ok-part.ensures c.loop-item.invariant

pub parts-returns : goal.parts-returns
parts-returns t c = at_end plain_parts parts-step refl _ _ c.args.items.now c.loop-item.item-index _ c.loop-item-test.false c.loop-item.invariant

pub fragment-returns-in-Plain : goal.fragment-returns-in-Plain
fragment-returns-in-Plain t c = plain-stepped c.add_plain.result _ c.args.piece.now _ _ _ c.in-Plain.is c.add_plain.ensures

pub fragment-returns-in-Format : goal.fragment-returns-in-Format
fragment-returns-in-Format t c = format-stepped c.parts.result c.add_format.result _ _ c.args.piece.now c.in-Format.items _ _ _ c.in-Format.is c.deref.ensures.value c.parts.ensures c.add_format.ensures

pub part-returns-in-Chars : goal.part-returns-in-Chars
part-returns-in-Chars t c = chars-stepped c.add_chars.result _ c.args.item.now _ _ _ c.in-Chars.is c.add_chars.ensures

pub part-returns-in-Field : goal.part-returns-in-Field
part-returns-in-Field t c = field-stepped c.expr.result c.add_field.result _ _ c.args.item.now c.in-Field.e _ _ c.in-Field.is c.expr.ensures c.add_field.ensures
