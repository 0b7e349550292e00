use Rattle.std.proofs.lemmas.Grind.{common_steps}
use Rattle.std.proofs.Common.{refl, sym, ap, ◌∙◌, ◌+◌, arith}
use Rattle.std.proofs.lemmas.Result.{IfOk-from_err}
use Rattle.py_syntax.specs.declared.expr.Pair.{out-Pair}
use Rattle.py_syntax.specs.View.{plain_expr, plain_exprs, plain_pairs, plain_links, plain_fragments, plain_parts}
use Rattle.py_compile_expr.specs.Expressions.{expr_size, each_size, pairs_size, fragments_size, parts_size}
use Rattle.py_compile_expr.proofs.Chains.{rest_size, chain_size, links_counted}
use Rattle.py_compile_expr.proofs.Forms.{name_shown, int_shown, str_shown, none_shown, bool_shown, fstr_shown, tuple_shown, list_shown, dict_shown, paren_shown, not_shown, and_shown, or_shown, unary_shown, binary_shown, compare_shown, cond_shown, pair_first}
use Rattle.py_compile_expr.proofs.Nodes.{bound_is, call_shown, index_shown, slice_shown, attr_shown, call_node-size, slice_node-size}
use Rattle.py_compile_expr.proofs.Turns.{none_counted, the_number, counted_turn, added, one_between, one_first, two_around}
use Rattle.py_compile_expr.proofs.expr_sizes.+sizes.Goals as goal

pub expr_size-returns-in-Name : goal.expr_size-returns-in-Name
expr_size-returns-in-Name t c = sym (ap expr_size (name_shown _ _ c.in-Name.is))

pub expr_size-returns-in-Int : goal.expr_size-returns-in-Int
expr_size-returns-in-Int t c = sym (ap expr_size (int_shown _ _ c.in-Int.is))

pub expr_size-returns-in-Str : goal.expr_size-returns-in-Str
expr_size-returns-in-Str t c = sym (ap expr_size (str_shown _ _ _ c.in-Str.is refl))

pub expr_size-returns-in-None : goal.expr_size-returns-in-None
expr_size-returns-in-None t c = sym (ap expr_size (none_shown _ c.in-None.is))

pub expr_size-returns-in-Bool : goal.expr_size-returns-in-Bool
expr_size-returns-in-Bool t c = sym (ap expr_size (bool_shown _ _ c.in-Bool.is))

pub expr_size-returns-in_ok-fragments_size-in-FStr : goal.expr_size-returns-in_ok-fragments_size-in-FStr
expr_size-returns-in_ok-fragments_size-in-FStr t c =
    the_number c.sum.result _ _ c.sum.ensures
    (ap (λ n. n + 1) c.in_ok-fragments_size-in-FStr.ensures ∙ one_first _ ∙ sym (ap expr_size (fstr_shown _ _ _ c.in-FStr.is c.deref.ensures.value)))

pub expr_size-returns-in_ok-each_size-in-Tuple : goal.expr_size-returns-in_ok-each_size-in-Tuple
expr_size-returns-in_ok-each_size-in-Tuple t c =
    the_number c.sum-in-Tuple.result _ _ c.sum-in-Tuple.ensures
    (ap (λ n. n + 1) c.in_ok-each_size-in-Tuple.ensures ∙ sym (ap expr_size (tuple_shown _ _ _ _ c.in-Tuple.is c.deref-in-Tuple.ensures.value)))

pub expr_size-returns-in_ok-each_size-in-List : goal.expr_size-returns-in_ok-each_size-in-List
expr_size-returns-in_ok-each_size-in-List t c =
    the_number c.sum-in-List.result _ _ c.sum-in-List.ensures
    (ap (λ n. n + 1) c.in_ok-each_size-in-List.ensures ∙ sym (ap expr_size (list_shown _ _ _ _ c.in-List.is c.deref-in-List.ensures.value)))

pub expr_size-returns-in_ok-pairs_size-in-Dict : goal.expr_size-returns-in_ok-pairs_size-in-Dict
expr_size-returns-in_ok-pairs_size-in-Dict t c =
    the_number c.sum-in-Dict.result _ _ c.sum-in-Dict.ensures
    (ap (λ n. n + 1) c.in_ok-pairs_size-in-Dict.ensures ∙ one_first _ ∙ sym (ap expr_size (dict_shown _ _ _ _ c.in-Dict.is c.deref-in-Dict.ensures.value)))

pub expr_size-returns-in-Paren : goal.expr_size-returns-in-Paren
expr_size-returns-in-Paren t c =
    the_number c.expr_size.result _ _ c.expr_size.ensures
    (sym (ap expr_size (paren_shown _ _ _ c.in-Paren.is c.deref-in-Paren.ensures)))

pub expr_size-returns-in_ok-expr_size-in-Not : goal.expr_size-returns-in_ok-expr_size-in-Not
expr_size-returns-in_ok-expr_size-in-Not t c =
    the_number c.sum-in-Not.result _ _ c.sum-in-Not.ensures
    (ap (λ n. n + 1) c.in_ok-expr_size-in-Not.ensures ∙ sym (ap expr_size (not_shown _ _ _ c.in-Not.is c.deref-in-Not.ensures)))

pub expr_size-returns-in_ok-expr_size-in-And : goal.expr_size-returns-in_ok-expr_size-in-And
expr_size-returns-in_ok-expr_size-in-And t c =
    the_number c.past.result _ _ c.past.ensures
    (ap (λ n. n + 1 + expr_size (plain_expr c.deref-in-And-2.result.now)) c.in_ok-expr_size-in-And.ensures ∙ sym (ap expr_size (and_shown _ _ _ _ _ c.in-And.is c.deref-in-And.ensures c.deref-in-And-2.ensures)))

pub expr_size-returns-in_ok-expr_size-in-Or : goal.expr_size-returns-in_ok-expr_size-in-Or
expr_size-returns-in_ok-expr_size-in-Or t c =
    the_number c.past-in-Or.result _ _ c.past-in-Or.ensures
    (ap (λ n. n + 1 + expr_size (plain_expr c.deref-in-Or-2.result.now)) c.in_ok-expr_size-in-Or.ensures ∙ sym (ap expr_size (or_shown _ _ _ _ _ c.in-Or.is c.deref-in-Or.ensures c.deref-in-Or-2.ensures)))

pub expr_size-returns-in_ok-expr_size-in-Binary : goal.expr_size-returns-in_ok-expr_size-in-Binary
expr_size-returns-in_ok-expr_size-in-Binary t c =
    the_number c.past-in-Binary.result _ _ c.past-in-Binary.ensures
    (ap (λ n. n + 1 + expr_size (plain_expr c.deref-in-Binary-2.result.now)) c.in_ok-expr_size-in-Binary.ensures ∙ one_between _ _ ∙ sym (ap expr_size (binary_shown _ _ _ _ _ _ c.in-Binary.is c.deref-in-Binary.ensures c.deref-in-Binary-2.ensures)))

pub expr_size-returns-in_ok-expr_size-in-Index : goal.expr_size-returns-in_ok-expr_size-in-Index
expr_size-returns-in_ok-expr_size-in-Index t c =
    the_number c.past-in-Index.result _ _ c.past-in-Index.ensures
    (ap (λ n. n + 1 + expr_size (plain_expr c.deref-in-Index-2.result.now)) c.in_ok-expr_size-in-Index.ensures ∙ one_between _ _ ∙ sym (ap expr_size (index_shown _ _ _ _ _ c.in-Index.is c.deref-in-Index.ensures c.deref-in-Index-2.ensures)))

pub expr_size-returns-in_ok-expr_size-in-Unary : goal.expr_size-returns-in_ok-expr_size-in-Unary
expr_size-returns-in_ok-expr_size-in-Unary t c =
    the_number c.sum-in-Unary.result _ _ c.sum-in-Unary.ensures
    (ap (λ n. n + 2) c.in_ok-expr_size-in-Unary.ensures ∙ two_around _ ∙ sym (ap expr_size (unary_shown _ _ _ _ c.in-Unary.is c.deref-in-Unary.ensures)))

pub expr_size-returns-in_ok-links_size-in-Compare : goal.expr_size-returns-in_ok-links_size-in-Compare
expr_size-returns-in_ok-links_size-in-Compare t c =
    the_number c.sum-in-Compare.result _ _ c.sum-in-Compare.ensures
    (added _ _ _ _ c.in_ok-expr_size-in-Compare.ensures c.in_ok-links_size-in-Compare.ensures ∙ sym (ap expr_size (compare_shown _ _ _ _ _ c.in-Compare.is c.deref-in-Compare.ensures c.deref-in-Compare-2.ensures.value)))

pub expr_size-returns-in_ok-past-in-Cond : goal.expr_size-returns-in_ok-past-in-Cond
expr_size-returns-in_ok-past-in-Cond t c =
    the_number c.past-in-Cond-2.result _ _ c.past-in-Cond-2.ensures
    (ap (λ n. n + 1 + expr_size (plain_expr c.deref-in-Cond-3.result.now)) (c.in_ok-past-in-Cond.ensures ∙ ap (λ n. n + 1 + expr_size (plain_expr c.deref-in-Cond-2.result.now)) c.in_ok-expr_size-in-Cond.ensures)
    ∙ sym (ap expr_size (cond_shown _ _ _ _ _ _ _ c.in-Cond.is c.deref-in-Cond-2.ensures c.deref-in-Cond.ensures c.deref-in-Cond-3.ensures)))

pub expr_size-returns-in_ok-each_size-in-Call : goal.expr_size-returns-in_ok-each_size-in-Call
expr_size-returns-in_ok-each_size-in-Call t c =
    the_number c.both.result _ _ c.both.ensures
    (ap (λ n. n + 1) (added _ _ _ _ c.in_ok-expr_size-in-Call.ensures c.in_ok-each_size-in-Call.ensures)
    ∙ sym (call_node-size _ _ _ _ (call_shown _ _ _ _ _ _ c.in-Call.is c.deref-in-Call.ensures c.deref-in-Call-2.ensures.value)))

pub expr_size-returns-in_ok-bound_size-in-Slice-2 : goal.expr_size-returns-in_ok-bound_size-in-Slice-2
expr_size-returns-in_ok-bound_size-in-Slice-2 t c =
    the_number c.both-in-Slice.result _ _ c.both-in-Slice.ensures
    (ap (λ n. n + 1) (added _ _ _ _ (c.in_ok-first-in-Slice.ensures ∙ added _ _ _ _ c.in_ok-expr_size-in-Slice.ensures c.in_ok-bound_size-in-Slice.ensures) c.in_ok-bound_size-in-Slice-2.ensures)
    ∙ sym (slice_node-size _ _ (bound_is c.in-Slice.from) (bound_is c.in-Slice.to) (slice_shown _ _ _ _ _ c.in-Slice.is c.deref-in-Slice.ensures)))

pub expr_size-returns-in_ok-expr_size-in-Attr : goal.expr_size-returns-in_ok-expr_size-in-Attr
expr_size-returns-in_ok-expr_size-in-Attr t c =
    the_number c.sum-in-Attr.result _ _ c.sum-in-Attr.ensures
    (ap (λ n. n + 1) c.in_ok-expr_size-in-Attr.ensures ∙ sym (ap expr_size (attr_shown _ _ _ _ _ c.in-Attr.is c.deref-in-Attr.ensures refl)))

pub past-returns : goal.past-returns
past-returns t c =
    the_number c.both.result _ _ c.both.ensures
    (ap (λ n. c.args.at + n + 1) c.in_ok-expr_size.ensures ∙ sym (one_between _ _))

pub each_size-loop-e-preserved : goal.each_size-loop-e-preserved
each_size-loop-e-preserved t c =
    counted_turn (λ xs. each_size (plain_exprs xs)) (λ x. expr_size (plain_expr x)) (λ x xs. refl) c.args.items.now c.loop-e.e-index c.e-item.result c.loop-e.size c.in_ok-size.size _ c.loop-e-test.true c.e-item.is
    (c.in_ok-size.ensures ∙ ap (λ n. c.loop-e.size + n) c.in_ok-expr_size.ensures) c.loop-e.invariant

pub pairs_size-loop-pair-preserved : goal.pairs_size-loop-pair-preserved
pairs_size-loop-pair-preserved t c =
    counted_turn (λ ps. pairs_size (plain_pairs ps)) (λ p. expr_size (plain_expr (out-Pair p).key) + expr_size (plain_expr (out-Pair p).value) + 1) (λ p ps. ap pairs_size (pair_first p ps)) c.args.items.now c.loop-pair.pair-index c.pair-item.result c.loop-pair.size c.in_ok-size.size _ c.loop-pair-test.true c.pair-item.is
    (c.in_ok-size.ensures ∙ ap (λ n. c.loop-pair.size + n) (c.in_ok-one.ensures ∙ ap (λ n. n + 1) (added _ _ _ _ c.in_ok-expr_size.ensures c.in_ok-expr_size-2.ensures))) c.loop-pair.invariant

pub links_size-loop-link-preserved : goal.links_size-loop-link-preserved
links_size-loop-link-preserved t c =
    links_counted c.loop-link.size _ c.in_ok-size.size c.args.items.now c.loop-link.link-index c.link-item.result _ c.loop-link-test.true c.link-item.is refl
    (c.in_ok-size.ensures ∙ ap (λ n. c.loop-link.size + n + 1) c.in_ok-expr_size.ensures) c.loop-link.invariant

pub each_size-returns : goal.each_size-returns
each_size-returns t c = none_counted (λ xs. each_size (plain_exprs xs)) refl _ _ _ _ c.loop-e-test.false c.loop-e.invariant

pub pairs_size-returns : goal.pairs_size-returns
pairs_size-returns t c = none_counted (λ xs. pairs_size (plain_pairs xs)) refl _ _ _ _ c.loop-pair-test.false c.loop-pair.invariant

pub fragments_size-returns : goal.fragments_size-returns
fragments_size-returns t c = none_counted (λ xs. fragments_size (plain_fragments xs)) refl _ _ _ _ c.loop-fragment-test.false c.loop-fragment.invariant

pub parts_size-returns : goal.parts_size-returns
parts_size-returns t c = none_counted (λ xs. parts_size (plain_parts xs)) refl _ _ _ _ c.loop-part-test.false c.loop-part.invariant

pub links_size-returns : goal.links_size-returns
links_size-returns t c =
    none_counted (λ xs. rest_size (plain_links xs)) refl _ _ _ _ c.loop-link-test.false c.loop-link.invariant
    ∙ sym (chain_size c.args.items.now (sym c.is_empty.ensures ∙ c.if-is_empty.false))

-- ---- what fails is passed on

pub each_size-returns-in_err-expr_size : goal.each_size-returns-in_err-expr_size
each_size-returns-in_err-expr_size t c = IfOk-from_err c.from_residual.result _ c.from_residual.ensures.0

pub each_size-returns-in_err-size : goal.each_size-returns-in_err-size
each_size-returns-in_err-size t c = IfOk-from_err c.from_residual-in_err-size.result _ c.from_residual-in_err-size.ensures.0

pub expr_size-returns-in_err-bound_size-in-Slice : goal.expr_size-returns-in_err-bound_size-in-Slice
expr_size-returns-in_err-bound_size-in-Slice t c = IfOk-from_err c.from_residual-in_err-bound_size-in-Slice.result _ c.from_residual-in_err-bound_size-in-Slice.ensures.0

pub expr_size-returns-in_err-bound_size-in-Slice-2 : goal.expr_size-returns-in_err-bound_size-in-Slice-2
expr_size-returns-in_err-bound_size-in-Slice-2 t c = IfOk-from_err c.from_residual-in_err-bound_size-in-Slice-2.result _ c.from_residual-in_err-bound_size-in-Slice-2.ensures.0

pub expr_size-returns-in_err-each_size-in-Call : goal.expr_size-returns-in_err-each_size-in-Call
expr_size-returns-in_err-each_size-in-Call t c = IfOk-from_err c.from_residual-in_err-each_size-in-Call.result _ c.from_residual-in_err-each_size-in-Call.ensures.0

pub expr_size-returns-in_err-each_size-in-List : goal.expr_size-returns-in_err-each_size-in-List
expr_size-returns-in_err-each_size-in-List t c = IfOk-from_err c.from_residual-in_err-each_size-in-List.result _ c.from_residual-in_err-each_size-in-List.ensures.0

pub expr_size-returns-in_err-each_size-in-Tuple : goal.expr_size-returns-in_err-each_size-in-Tuple
expr_size-returns-in_err-each_size-in-Tuple t c = IfOk-from_err c.from_residual-in_err-each_size-in-Tuple.result _ c.from_residual-in_err-each_size-in-Tuple.ensures.0

pub expr_size-returns-in_err-expr_size-in-And : goal.expr_size-returns-in_err-expr_size-in-And
expr_size-returns-in_err-expr_size-in-And t c = IfOk-from_err c.from_residual-in_err-expr_size-in-And.result _ c.from_residual-in_err-expr_size-in-And.ensures.0

pub expr_size-returns-in_err-expr_size-in-Attr : goal.expr_size-returns-in_err-expr_size-in-Attr
expr_size-returns-in_err-expr_size-in-Attr t c = IfOk-from_err c.from_residual-in_err-expr_size-in-Attr.result _ c.from_residual-in_err-expr_size-in-Attr.ensures.0

pub expr_size-returns-in_err-expr_size-in-Binary : goal.expr_size-returns-in_err-expr_size-in-Binary
expr_size-returns-in_err-expr_size-in-Binary t c = IfOk-from_err c.from_residual-in_err-expr_size-in-Binary.result _ c.from_residual-in_err-expr_size-in-Binary.ensures.0

pub expr_size-returns-in_err-expr_size-in-Call : goal.expr_size-returns-in_err-expr_size-in-Call
expr_size-returns-in_err-expr_size-in-Call t c = IfOk-from_err c.from_residual-in_err-expr_size-in-Call.result _ c.from_residual-in_err-expr_size-in-Call.ensures.0

pub expr_size-returns-in_err-expr_size-in-Compare : goal.expr_size-returns-in_err-expr_size-in-Compare
expr_size-returns-in_err-expr_size-in-Compare t c = IfOk-from_err c.from_residual-in_err-expr_size-in-Compare.result _ c.from_residual-in_err-expr_size-in-Compare.ensures.0

pub expr_size-returns-in_err-expr_size-in-Cond : goal.expr_size-returns-in_err-expr_size-in-Cond
expr_size-returns-in_err-expr_size-in-Cond t c = IfOk-from_err c.from_residual-in_err-expr_size-in-Cond.result _ c.from_residual-in_err-expr_size-in-Cond.ensures.0

pub expr_size-returns-in_err-expr_size-in-Index : goal.expr_size-returns-in_err-expr_size-in-Index
expr_size-returns-in_err-expr_size-in-Index t c = IfOk-from_err c.from_residual-in_err-expr_size-in-Index.result _ c.from_residual-in_err-expr_size-in-Index.ensures.0

pub expr_size-returns-in_err-expr_size-in-Not : goal.expr_size-returns-in_err-expr_size-in-Not
expr_size-returns-in_err-expr_size-in-Not t c = IfOk-from_err c.from_residual-in_err-expr_size-in-Not.result _ c.from_residual-in_err-expr_size-in-Not.ensures.0

pub expr_size-returns-in_err-expr_size-in-Or : goal.expr_size-returns-in_err-expr_size-in-Or
expr_size-returns-in_err-expr_size-in-Or t c = IfOk-from_err c.from_residual-in_err-expr_size-in-Or.result _ c.from_residual-in_err-expr_size-in-Or.ensures.0

pub expr_size-returns-in_err-expr_size-in-Slice : goal.expr_size-returns-in_err-expr_size-in-Slice
expr_size-returns-in_err-expr_size-in-Slice t c = IfOk-from_err c.from_residual-in_err-expr_size-in-Slice.result _ c.from_residual-in_err-expr_size-in-Slice.ensures.0

pub expr_size-returns-in_err-expr_size-in-Unary : goal.expr_size-returns-in_err-expr_size-in-Unary
expr_size-returns-in_err-expr_size-in-Unary t c = IfOk-from_err c.from_residual-in_err-expr_size-in-Unary.result _ c.from_residual-in_err-expr_size-in-Unary.ensures.0

pub expr_size-returns-in_err-first-in-Slice : goal.expr_size-returns-in_err-first-in-Slice
expr_size-returns-in_err-first-in-Slice t c = IfOk-from_err c.from_residual-in_err-first-in-Slice.result _ c.from_residual-in_err-first-in-Slice.ensures.0

pub expr_size-returns-in_err-fragments_size-in-FStr : goal.expr_size-returns-in_err-fragments_size-in-FStr
expr_size-returns-in_err-fragments_size-in-FStr t c = IfOk-from_err c.from_residual.result _ c.from_residual.ensures.0

pub expr_size-returns-in_err-links_size-in-Compare : goal.expr_size-returns-in_err-links_size-in-Compare
expr_size-returns-in_err-links_size-in-Compare t c = IfOk-from_err c.from_residual-in_err-links_size-in-Compare.result _ c.from_residual-in_err-links_size-in-Compare.ensures.0

pub expr_size-returns-in_err-pairs_size-in-Dict : goal.expr_size-returns-in_err-pairs_size-in-Dict
expr_size-returns-in_err-pairs_size-in-Dict t c = IfOk-from_err c.from_residual-in_err-pairs_size-in-Dict.result _ c.from_residual-in_err-pairs_size-in-Dict.ensures.0

pub expr_size-returns-in_err-past-in-Cond : goal.expr_size-returns-in_err-past-in-Cond
expr_size-returns-in_err-past-in-Cond t c = IfOk-from_err c.from_residual-in_err-past-in-Cond.result _ c.from_residual-in_err-past-in-Cond.ensures.0

pub fragments_size-returns-in_err-parts_size-in-Format : goal.fragments_size-returns-in_err-parts_size-in-Format
fragments_size-returns-in_err-parts_size-in-Format t c = IfOk-from_err c.from_residual-in_err-parts_size-in-Format.result _ c.from_residual-in_err-parts_size-in-Format.ensures.0

pub fragments_size-returns-in_err-size-in-Format : goal.fragments_size-returns-in_err-size-in-Format
fragments_size-returns-in_err-size-in-Format t c = IfOk-from_err c.from_residual-in_err-size-in-Format.result _ c.from_residual-in_err-size-in-Format.ensures.0

pub fragments_size-returns-in_err-size-in-Plain : goal.fragments_size-returns-in_err-size-in-Plain
fragments_size-returns-in_err-size-in-Plain t c = IfOk-from_err c.from_residual.result _ c.from_residual.ensures.0

pub links_size-returns-in_err-expr_size : goal.links_size-returns-in_err-expr_size
links_size-returns-in_err-expr_size t c = IfOk-from_err c.from_residual.result _ c.from_residual.ensures.0

pub links_size-returns-in_err-size : goal.links_size-returns-in_err-size
links_size-returns-in_err-size t c = IfOk-from_err c.from_residual-in_err-size.result _ c.from_residual-in_err-size.ensures.0

pub pairs_size-returns-in_err-expr_size : goal.pairs_size-returns-in_err-expr_size
pairs_size-returns-in_err-expr_size t c = IfOk-from_err c.from_residual.result _ c.from_residual.ensures.0

pub pairs_size-returns-in_err-expr_size-2 : goal.pairs_size-returns-in_err-expr_size-2
pairs_size-returns-in_err-expr_size-2 t c = IfOk-from_err c.from_residual-in_err-expr_size-2.result _ c.from_residual-in_err-expr_size-2.ensures.0

pub pairs_size-returns-in_err-one : goal.pairs_size-returns-in_err-one
pairs_size-returns-in_err-one t c = IfOk-from_err c.from_residual-in_err-one.result _ c.from_residual-in_err-one.ensures.0

pub pairs_size-returns-in_err-size : goal.pairs_size-returns-in_err-size
pairs_size-returns-in_err-size t c = IfOk-from_err c.from_residual-in_err-size.result _ c.from_residual-in_err-size.ensures.0

pub parts_size-returns-in_err-expr_size-in-Field : goal.parts_size-returns-in_err-expr_size-in-Field
parts_size-returns-in_err-expr_size-in-Field t c = IfOk-from_err c.from_residual-in_err-expr_size-in-Field.result _ c.from_residual-in_err-expr_size-in-Field.ensures.0

pub parts_size-returns-in_err-size-in-Chars : goal.parts_size-returns-in_err-size-in-Chars
parts_size-returns-in_err-size-in-Chars t c = IfOk-from_err c.from_residual.result _ c.from_residual.ensures.0

pub parts_size-returns-in_err-size-in-Field : goal.parts_size-returns-in_err-size-in-Field
parts_size-returns-in_err-size-in-Field t c = IfOk-from_err c.from_residual-in_err-size-in-Field.result _ c.from_residual-in_err-size-in-Field.ensures.0

pub parts_size-returns-in_err-sum-in-Field : goal.parts_size-returns-in_err-sum-in-Field
parts_size-returns-in_err-sum-in-Field t c = IfOk-from_err c.from_residual-in_err-sum-in-Field.result _ c.from_residual-in_err-sum-in-Field.ensures.0

pub past-returns-in_err-expr_size : goal.past-returns-in_err-expr_size
past-returns-in_err-expr_size t c = IfOk-from_err c.from_residual.result _ c.from_residual.ensures.0

pub links_size-returns-then-is_empty : goal.links_size-returns-then-is_empty
links_size-returns-then-is_empty t c = grind (arith, common_steps)
