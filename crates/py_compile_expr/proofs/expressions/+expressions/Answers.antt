use Rattle.std.proofs.lemmas.Grind.{common_steps}
use Rattle.std.proofs.Common.{refl, sym, ap, ◌∙◌, ◌+◌, ◌++◌, arith}
use Rattle.std.proofs.lemmas.Result.{IfOk-from_err}
use Rattle.py_syntax.specs.declared.expr.Pair.{out-Pair}
use Rattle.py_syntax.specs.View.{plain_exprs, plain_expr, plain_pairs, plain_links, plain_fragments, plain_parts}
use Rattle.py_code.specs.declared.instr.Instr.TheVariants.{Call, IfFalse}
use Rattle.py_compile_expr.specs.Cells.{plain, put}
use Rattle.py_compile_expr.specs.CellView.{plain_guard}
use Rattle.py_compile_expr.specs.Expressions.{expr_size, expr_code, each_size, each_code, pairs_size, pairs_code, links_code, fragments_size, fragments_code, parts_size, parts_code}
use Rattle.py_compile_expr.specs.Pieces.{after_code, row_code, skip_instr}
use Rattle.py_compile_expr.proofs.Chains.{rest_size, rest_code, chain_size, chain_code, links_added, links_counted}
use Rattle.py_compile_expr.proofs.Forms.{name_shown, int_shown, str_shown, none_shown, bool_shown, fstr_shown, tuple_shown, list_shown, dict_shown, paren_shown, not_shown, and_shown, or_shown, unary_shown, binary_shown, compare_shown, cond_shown, pair_first}
use Rattle.py_compile_expr.proofs.Arms.{tuple_code, list_code, fstr_code, dict_code, and_code, or_code, binary_code, compare_code, cond_code, last_placed, placed, skipped_placed, then_placed, chosen_placed, each_added, pairs_added}
use Rattle.py_compile_expr.proofs.Nodes.{bound_is, call_shown, index_shown, slice_shown, attr_shown, call_node, call_node-size, index_node, slice_node, slice_node-size, attr_node}
use Rattle.py_compile_expr.proofs.Turns.{none_counted, none_added, kept, then, three, four, the_number, counted_turn}
use Rattle.py_compile_expr.proofs.expressions.+expressions.Goals as goal

pub put_links-loop-i-preserved : goal.put_links-loop-i-preserved
put_links-loop-i-preserved t c = record {
  cells = links_added (plain_guard c.args.guard) c.loop-i.to c.in_ok-to.to c.in_ok-to-2.to c.args.end c.args.items.now c.loop-i.i c.index-items-i.result c.link_instr-instr.result _ _ _ _ c.loop-i-test.true c.index-items-i.is c.in_ok-to.ensures.cells c.in_ok-to-2.ensures.cells (c.link_instr-instr.ensures ∙ cc) c.in_ok-to.ensures.place c.in_ok-to-2.ensures.place c.loop-i.invariant.cells;
  place = links_counted c.loop-i.to c.in_ok-to.to c.in_ok-to-2.to c.args.items.now c.loop-i.i c.index-items-i.result _ c.loop-i-test.true c.index-items-i.is c.in_ok-to.ensures.place c.in_ok-to-2.ensures.place c.loop-i.invariant.place;
}

pub put_links-returns-clause-cells : goal.put_links-returns-clause-cells
put_links-returns-clause-cells t c =
    none_added (λ xs. rest_code (plain_guard c.args.guard) c.loop-i.to c.args.end (plain_links xs)) refl _ _ _ _ c.loop-i-test.false c.loop-i.invariant.cells
    ∙ ap (λ cs. c.args.out.now ++ cs) (sym (chain_code (plain_guard c.args.guard) c.args.at c.args.end c.args.items.now (sym c.is_empty.ensures ∙ c.if-is_empty.false)))

pub put_links-returns-clause-place : goal.put_links-returns-clause-place
put_links-returns-clause-place t c =
    none_counted (λ xs. rest_size (plain_links xs)) refl _ _ _ _ c.loop-i-test.false c.loop-i.invariant.place
    ∙ ap (λ n. c.args.at + n) (sym (chain_size c.args.items.now (sym c.is_empty.ensures ∙ c.if-is_empty.false)))

pub put_expr-returns-in_ok-at-in-Call-clause-cells : goal.put_expr-returns-in_ok-at-in-Call-clause-cells
put_expr-returns-in_ok-at-in-Call-clause-cells t c =
    let e = call_shown c.args.e.now c.in-Call.callee c.in-Call.args c.in-Call.comma c.deref-in-Call.result.now c.deref-in-Call-2.result.now c.in-Call.is c.deref-in-Call.ensures c.deref-in-Call-2.ensures.value in
    then c.put_args.result _ _ _ _ _ _ c.put_args.ensures.cells c.in_ok-at-in-Call.ensures.cells
    (call_node (plain_guard c.args.guard) c.args.at c.in_ok-at-in-Call.at (plain_expr c.args.e.now) (plain_expr c.deref-in-Call.result.now) (plain_exprs c.deref-in-Call-2.result.now) c.in-Call.comma e c.in_ok-at-in-Call.ensures.place)

pub put_expr-returns-in_ok-at-in-Call-clause-place : goal.put_expr-returns-in_ok-at-in-Call-clause-place
put_expr-returns-in_ok-at-in-Call-clause-place t c =
    let e = call_shown c.args.e.now c.in-Call.callee c.in-Call.args c.in-Call.comma c.deref-in-Call.result.now c.deref-in-Call-2.result.now c.in-Call.is c.deref-in-Call.ensures c.deref-in-Call-2.ensures.value in
    the_number c.put_args.result _ _ c.put_args.ensures.place
    (let a = c.in_ok-at-in-Call.ensures.place in
    let d = call_node-size (plain_expr c.args.e.now) (plain_expr c.deref-in-Call.result.now) (plain_exprs c.deref-in-Call-2.result.now) c.in-Call.comma e in omega (arith, a, d))

pub put_expr-returns-in_ok-at-in-Index-clause-cells : goal.put_expr-returns-in_ok-at-in-Index-clause-cells
put_expr-returns-in_ok-at-in-Index-clause-cells t c =
    then c.put_then-in-Index.result _ _ _ _ _ _ c.put_then-in-Index.ensures.cells c.in_ok-at-in-Index.ensures.cells
    (index_node (plain_guard c.args.guard) c.args.at c.in_ok-at-in-Index.at (plain_expr c.args.e.now) (plain_expr c.deref-in-Index.result.now) (plain_expr c.deref-in-Index-2.result.now)
    (index_shown c.args.e.now c.in-Index.of c.in-Index.index c.deref-in-Index.result.now c.deref-in-Index-2.result.now c.in-Index.is c.deref-in-Index.ensures c.deref-in-Index-2.ensures) c.in_ok-at-in-Index.ensures.place)

pub put_expr-returns-in_ok-at-in-Slice-3-clause-cells : goal.put_expr-returns-in_ok-at-in-Slice-3-clause-cells
put_expr-returns-in_ok-at-in-Slice-3-clause-cells t c =
    four c.put-in-Slice.result _ _ _ _ _ _ _ _ _ _ c.in_ok-at-in-Slice.ensures.cells c.in_ok-at-in-Slice-2.ensures.cells c.in_ok-at-in-Slice-3.ensures.cells c.put-in-Slice.ensures.cells
    (slice_node (plain_guard c.args.guard) c.args.at c.in_ok-at-in-Slice.at c.in_ok-at-in-Slice-2.at c.bounds.result (plain_expr c.args.e.now) (plain_expr c.deref-in-Slice.result.now) (bound_is c.in-Slice.from) (bound_is c.in-Slice.to)
    (slice_shown c.args.e.now c.in-Slice.of c.in-Slice.from c.in-Slice.to c.deref-in-Slice.result.now c.in-Slice.is c.deref-in-Slice.ensures) c.in_ok-at-in-Slice.ensures.place c.in_ok-at-in-Slice-2.ensures.place c.bounds.ensures)

pub put_expr-returns-in_ok-at-in-Slice-3-clause-place : goal.put_expr-returns-in_ok-at-in-Slice-3-clause-place
put_expr-returns-in_ok-at-in-Slice-3-clause-place t c =
    let e = slice_shown c.args.e.now c.in-Slice.of c.in-Slice.from c.in-Slice.to c.deref-in-Slice.result.now c.in-Slice.is c.deref-in-Slice.ensures in
    the_number c.put-in-Slice.result _ _ c.put-in-Slice.ensures.place
    (let a = c.in_ok-at-in-Slice.ensures.place in let b = c.in_ok-at-in-Slice-2.ensures.place in let f = c.in_ok-at-in-Slice-3.ensures.place in
    let d = slice_node-size (plain_expr c.args.e.now) (plain_expr c.deref-in-Slice.result.now) (bound_is c.in-Slice.from) (bound_is c.in-Slice.to) e in omega (arith, a, b, f, d))

pub put_expr-returns-in_ok-name-in-Attr-clause-cells : goal.put_expr-returns-in_ok-name-in-Attr-clause-cells
put_expr-returns-in_ok-name-in-Attr-clause-cells t c =
    kept c.put_then-in-Attr.result _ _ _ _
    (attr_node (plain_guard c.args.guard) c.args.at (plain_expr c.args.e.now) (plain_expr c.deref-in-Attr.result.now) c.in_ok-name-in-Attr.name
    (attr_shown c.args.e.now c.in-Attr.of c.deref-in-Attr.result.now c.in-Attr.name c.in_ok-name-in-Attr.name c.in-Attr.is c.deref-in-Attr.ensures c.in_ok-name-in-Attr.ensures)) c.put_then-in-Attr.ensures.cells

pub put_expr-returns-in-Name-clause-cells : goal.put_expr-returns-in-Name-clause-cells
put_expr-returns-in-Name-clause-cells t c =
    kept c.put_load.result _ _ _ _ (ap (expr_code (plain_guard c.args.guard) c.args.at) (name_shown _ _ c.in-Name.is)) c.put_load.ensures.cells

pub put_expr-returns-in-Name-clause-place : goal.put_expr-returns-in-Name-clause-place
put_expr-returns-in-Name-clause-place t c =
    the_number c.put_load.result _ _ c.put_load.ensures.place (ap (λ n. c.args.at + n) (sym (ap expr_size (name_shown _ _ c.in-Name.is))))

pub put_expr-returns-in-Int-clause-place : goal.put_expr-returns-in-Int-clause-place
put_expr-returns-in-Int-clause-place t c =
    the_number c.put.result _ _ c.put.ensures.place (ap (λ n. c.args.at + n) (sym (ap expr_size (int_shown _ _ c.in-Int.is))))

pub put_expr-returns-in-None-clause-cells : goal.put_expr-returns-in-None-clause-cells
put_expr-returns-in-None-clause-cells t c =
    kept c.put-in-None.result _ _ _ _ (ap (expr_code (plain_guard c.args.guard) c.args.at) (none_shown _ c.in-None.is)) c.put-in-None.ensures.cells

pub put_expr-returns-in-None-clause-place : goal.put_expr-returns-in-None-clause-place
put_expr-returns-in-None-clause-place t c =
    the_number c.put-in-None.result _ _ c.put-in-None.ensures.place (ap (λ n. c.args.at + n) (sym (ap expr_size (none_shown _ c.in-None.is))))

pub put_expr-returns-in-Bool-clause-cells : goal.put_expr-returns-in-Bool-clause-cells
put_expr-returns-in-Bool-clause-cells t c =
    kept c.put-in-Bool.result _ _ _ _ (ap (expr_code (plain_guard c.args.guard) c.args.at) (bool_shown _ _ c.in-Bool.is)) c.put-in-Bool.ensures.cells

pub put_expr-returns-in-Bool-clause-place : goal.put_expr-returns-in-Bool-clause-place
put_expr-returns-in-Bool-clause-place t c =
    the_number c.put-in-Bool.result _ _ c.put-in-Bool.ensures.place (ap (λ n. c.args.at + n) (sym (ap expr_size (bool_shown _ _ c.in-Bool.is))))

pub put_expr-returns-in-Str-clause-cells : goal.put_expr-returns-in-Str-clause-cells
put_expr-returns-in-Str-clause-cells t c =
    kept c.put_string.result _ _ _ _ (ap (expr_code (plain_guard c.args.guard) c.args.at) (str_shown _ _ _ c.in-Str.is c.deref.ensures.value)) c.put_string.ensures.cells

pub put_expr-returns-in-Str-clause-place : goal.put_expr-returns-in-Str-clause-place
put_expr-returns-in-Str-clause-place t c =
    the_number c.put_string.result _ _ c.put_string.ensures.place (ap (λ n. c.args.at + n) (sym (ap expr_size (str_shown _ _ _ c.in-Str.is c.deref.ensures.value))))

pub put_expr-returns-in-Paren-clause-cells : goal.put_expr-returns-in-Paren-clause-cells
put_expr-returns-in-Paren-clause-cells t c =
    kept c.put_expr.result _ _ _ _ (ap (expr_code (plain_guard c.args.guard) c.args.at) (paren_shown _ _ _ c.in-Paren.is c.deref-in-Paren.ensures)) c.put_expr.ensures.cells

pub put_expr-returns-in-Paren-clause-place : goal.put_expr-returns-in-Paren-clause-place
put_expr-returns-in-Paren-clause-place t c =
    the_number c.put_expr.result _ _ c.put_expr.ensures.place (ap (λ n. c.args.at + n) (sym (ap expr_size (paren_shown _ _ _ c.in-Paren.is c.deref-in-Paren.ensures))))

pub put_expr-returns-in-Not-clause-cells : goal.put_expr-returns-in-Not-clause-cells
put_expr-returns-in-Not-clause-cells t c =
    kept c.put_then.result _ _ _ _ (ap (expr_code (plain_guard c.args.guard) c.args.at) (not_shown _ _ _ c.in-Not.is c.deref-in-Not.ensures)) c.put_then.ensures.cells

pub put_expr-returns-in-Not-clause-place : goal.put_expr-returns-in-Not-clause-place
put_expr-returns-in-Not-clause-place t c =
    the_number c.put_then.result _ _ c.put_then.ensures.place (last_placed _ _ ∙ ap (λ n. c.args.at + n) (sym (ap expr_size (not_shown _ _ _ c.in-Not.is c.deref-in-Not.ensures))))

pub put_expr-returns-in-Unary-clause-cells : goal.put_expr-returns-in-Unary-clause-cells
put_expr-returns-in-Unary-clause-cells t c =
    kept c.put_unary.result _ _ _ _ (ap (expr_code (plain_guard c.args.guard) c.args.at) (unary_shown _ _ _ _ c.in-Unary.is c.deref-in-Unary.ensures)) c.put_unary.ensures.cells

pub put_expr-returns-in-Unary-clause-place : goal.put_expr-returns-in-Unary-clause-place
put_expr-returns-in-Unary-clause-place t c =
    the_number c.put_unary.result _ _ c.put_unary.ensures.place (ap (λ n. c.args.at + n) (sym (ap expr_size (unary_shown _ _ _ _ c.in-Unary.is c.deref-in-Unary.ensures))))

pub put_expr-returns-in_ok-size-in-Tuple-clause-cells : goal.put_expr-returns-in_ok-size-in-Tuple-clause-cells
put_expr-returns-in_ok-size-in-Tuple-clause-cells t c =
    kept c.put_row.result _ _ _ _ (tuple_code _ _ _ _ _ _ _ _ c.in-Tuple.is c.deref-in-Tuple.ensures.value c.deref-in-Tuple-2.ensures.value c.in_ok-size-in-Tuple.ensures) c.put_row.ensures.cells

pub put_expr-returns-in_ok-size-in-Tuple-clause-place : goal.put_expr-returns-in_ok-size-in-Tuple-clause-place
put_expr-returns-in_ok-size-in-Tuple-clause-place t c =
    the_number c.put_row.result _ _ c.put_row.ensures.place (last_placed _ _ ∙ ap (λ n. c.args.at + n) (sym (ap expr_size (tuple_shown _ _ _ _ c.in-Tuple.is c.deref-in-Tuple-2.ensures.value))))

pub put_expr-returns-in_ok-size-in-List-clause-cells : goal.put_expr-returns-in_ok-size-in-List-clause-cells
put_expr-returns-in_ok-size-in-List-clause-cells t c =
    kept c.put_row-in-List.result _ _ _ _ (list_code _ _ _ _ _ _ _ _ c.in-List.is c.deref-in-List.ensures.value c.deref-in-List-2.ensures.value c.in_ok-size-in-List.ensures) c.put_row-in-List.ensures.cells

pub put_expr-returns-in_ok-size-in-List-clause-place : goal.put_expr-returns-in_ok-size-in-List-clause-place
put_expr-returns-in_ok-size-in-List-clause-place t c =
    the_number c.put_row-in-List.result _ _ c.put_row-in-List.ensures.place (last_placed _ _ ∙ ap (λ n. c.args.at + n) (sym (ap expr_size (list_shown _ _ _ _ c.in-List.is c.deref-in-List-2.ensures.value))))

pub put_expr-returns-in_ok-at-in-FStr-clause-cells : goal.put_expr-returns-in_ok-at-in-FStr-clause-cells
put_expr-returns-in_ok-at-in-FStr-clause-cells t c =
    then c.put_fragments.result _ _ _ _ _ _ c.put_fragments.ensures.cells c.in_ok-at-in-FStr.ensures.cells (fstr_code _ _ _ _ _ (fstr_shown _ _ _ c.in-FStr.is c.deref-in-FStr.ensures.value) c.in_ok-at-in-FStr.ensures.place)

pub put_expr-returns-in_ok-at-in-FStr-clause-place : goal.put_expr-returns-in_ok-at-in-FStr-clause-place
put_expr-returns-in_ok-at-in-FStr-clause-place t c =
    the_number c.put_fragments.result _ _ c.put_fragments.ensures.place (placed _ _ 1 _ c.in_ok-at-in-FStr.ensures.place ∙ ap (λ n. c.args.at + n) (sym (ap expr_size (fstr_shown _ _ _ c.in-FStr.is c.deref-in-FStr.ensures.value))))

pub put_expr-returns-in_ok-at-in-Dict-clause-cells : goal.put_expr-returns-in_ok-at-in-Dict-clause-cells
put_expr-returns-in_ok-at-in-Dict-clause-cells t c =
    then c.put_pairs.result _ _ _ _ _ _ c.put_pairs.ensures.cells c.in_ok-at-in-Dict.ensures.cells (dict_code _ _ _ _ _ _ (dict_shown _ _ _ _ c.in-Dict.is c.deref-in-Dict.ensures.value) c.in_ok-at-in-Dict.ensures.place)

pub put_expr-returns-in_ok-at-in-Dict-clause-place : goal.put_expr-returns-in_ok-at-in-Dict-clause-place
put_expr-returns-in_ok-at-in-Dict-clause-place t c =
    the_number c.put_pairs.result _ _ c.put_pairs.ensures.place (placed _ _ 1 _ c.in_ok-at-in-Dict.ensures.place ∙ ap (λ n. c.args.at + n) (sym (ap expr_size (dict_shown _ _ _ _ c.in-Dict.is c.deref-in-Dict.ensures.value))))

pub put_expr-returns-in_ok-at-in-And-clause-cells : goal.put_expr-returns-in_ok-at-in-And-clause-cells
put_expr-returns-in_ok-at-in-And-clause-cells t c =
    then c.put_skipped.result _ _ _ _ _ _ c.put_skipped.ensures.cells c.in_ok-at-in-And.ensures.cells (and_code _ _ _ _ _ _ (and_shown _ _ _ _ _ c.in-And.is c.deref-in-And.ensures c.deref-in-And-2.ensures) c.in_ok-at-in-And.ensures.place)

pub put_expr-returns-in_ok-at-in-And-clause-place : goal.put_expr-returns-in_ok-at-in-And-clause-place
put_expr-returns-in_ok-at-in-And-clause-place t c =
    the_number c.put_skipped.result _ _ c.put_skipped.ensures.place (skipped_placed _ _ _ _ c.in_ok-at-in-And.ensures.place ∙ ap (λ n. c.args.at + n) (sym (ap expr_size (and_shown _ _ _ _ _ c.in-And.is c.deref-in-And.ensures c.deref-in-And-2.ensures))))

pub put_expr-returns-in_ok-at-in-Or-clause-cells : goal.put_expr-returns-in_ok-at-in-Or-clause-cells
put_expr-returns-in_ok-at-in-Or-clause-cells t c =
    then c.put_skipped-in-Or.result _ _ _ _ _ _ c.put_skipped-in-Or.ensures.cells c.in_ok-at-in-Or.ensures.cells (or_code _ _ _ _ _ _ (or_shown _ _ _ _ _ c.in-Or.is c.deref-in-Or.ensures c.deref-in-Or-2.ensures) c.in_ok-at-in-Or.ensures.place)

pub put_expr-returns-in_ok-at-in-Or-clause-place : goal.put_expr-returns-in_ok-at-in-Or-clause-place
put_expr-returns-in_ok-at-in-Or-clause-place t c =
    the_number c.put_skipped-in-Or.result _ _ c.put_skipped-in-Or.ensures.place (skipped_placed _ _ _ _ c.in_ok-at-in-Or.ensures.place ∙ ap (λ n. c.args.at + n) (sym (ap expr_size (or_shown _ _ _ _ _ c.in-Or.is c.deref-in-Or.ensures c.deref-in-Or-2.ensures))))

pub put_expr-returns-in_ok-at-in-Binary-clause-cells : goal.put_expr-returns-in_ok-at-in-Binary-clause-cells
put_expr-returns-in_ok-at-in-Binary-clause-cells t c =
    then c.put_then-in-Binary.result _ _ _ _ _ _ c.put_then-in-Binary.ensures.cells c.in_ok-at-in-Binary.ensures.cells (binary_code _ _ _ _ _ _ _ (binary_shown _ _ _ _ _ _ c.in-Binary.is c.deref-in-Binary.ensures c.deref-in-Binary-2.ensures) c.in_ok-at-in-Binary.ensures.place)

pub put_expr-returns-in_ok-at-in-Binary-clause-place : goal.put_expr-returns-in_ok-at-in-Binary-clause-place
put_expr-returns-in_ok-at-in-Binary-clause-place t c =
    the_number c.put_then-in-Binary.result _ _ c.put_then-in-Binary.ensures.place (then_placed _ _ _ _ c.in_ok-at-in-Binary.ensures.place ∙ ap (λ n. c.args.at + n) (sym (ap expr_size (binary_shown _ _ _ _ _ _ c.in-Binary.is c.deref-in-Binary.ensures c.deref-in-Binary-2.ensures))))

pub put_expr-returns-in_ok-at-in-Index-clause-place : goal.put_expr-returns-in_ok-at-in-Index-clause-place
put_expr-returns-in_ok-at-in-Index-clause-place t c =
    the_number c.put_then-in-Index.result _ _ c.put_then-in-Index.ensures.place (then_placed _ _ _ _ c.in_ok-at-in-Index.ensures.place ∙ ap (λ n. c.args.at + n) (sym (ap expr_size (index_shown _ _ _ _ _ c.in-Index.is c.deref-in-Index.ensures c.deref-in-Index-2.ensures))))

pub put_expr-returns-in_ok-at-in-Compare-clause-cells : goal.put_expr-returns-in_ok-at-in-Compare-clause-cells
put_expr-returns-in_ok-at-in-Compare-clause-cells t c =
    then c.put_chain.result _ _ _ _ _ _ c.put_chain.ensures.cells c.in_ok-at-in-Compare.ensures.cells (compare_code _ _ _ _ _ _ (compare_shown _ _ _ _ _ c.in-Compare.is c.deref-in-Compare.ensures c.deref-in-Compare-2.ensures.value) c.in_ok-at-in-Compare.ensures.place)

pub put_expr-returns-in_ok-at-in-Compare-clause-place : goal.put_expr-returns-in_ok-at-in-Compare-clause-place
put_expr-returns-in_ok-at-in-Compare-clause-place t c =
    the_number c.put_chain.result _ _ c.put_chain.ensures.place (placed _ _ _ _ c.in_ok-at-in-Compare.ensures.place ∙ ap (λ n. c.args.at + n) (sym (ap expr_size (compare_shown _ _ _ _ _ c.in-Compare.is c.deref-in-Compare.ensures c.deref-in-Compare-2.ensures.value))))

pub put_expr-returns-in_ok-at-in-Cond-2-clause-cells : goal.put_expr-returns-in_ok-at-in-Cond-2-clause-cells
put_expr-returns-in_ok-at-in-Cond-2-clause-cells t c =
    three c.put_skipped-in-Cond.result _ _ _ _ _ _ _ _ c.in_ok-at-in-Cond.ensures.cells c.in_ok-at-in-Cond-2.ensures.cells c.put_skipped-in-Cond.ensures.cells
    (cond_code _ _ _ _ _ _ _ _ (cond_shown _ _ _ _ _ _ _ c.in-Cond.is c.deref-in-Cond-2.ensures c.deref-in-Cond.ensures c.deref-in-Cond-3.ensures) c.in_ok-at-in-Cond.ensures.place c.in_ok-at-in-Cond-2.ensures.place)

pub put_expr-returns-in_ok-at-in-Cond-2-clause-place : goal.put_expr-returns-in_ok-at-in-Cond-2-clause-place
put_expr-returns-in_ok-at-in-Cond-2-clause-place t c =
    the_number c.put_skipped-in-Cond.result _ _ c.put_skipped-in-Cond.ensures.place (chosen_placed _ _ _ _ _ _ c.in_ok-at-in-Cond.ensures.place c.in_ok-at-in-Cond-2.ensures.place ∙ ap (λ n. c.args.at + n) (sym (ap expr_size (cond_shown _ _ _ _ _ _ _ c.in-Cond.is c.deref-in-Cond-2.ensures c.deref-in-Cond.ensures c.deref-in-Cond-3.ensures))))

pub put_expr-returns-in_ok-name-in-Attr-clause-place : goal.put_expr-returns-in_ok-name-in-Attr-clause-place
put_expr-returns-in_ok-name-in-Attr-clause-place t c =
    the_number c.put_then-in-Attr.result _ _ c.put_then-in-Attr.ensures.place (last_placed _ _ ∙ ap (λ n. c.args.at + n) (sym (ap expr_size (attr_shown _ _ _ _ _ c.in-Attr.is c.deref-in-Attr.ensures refl))))

-- ---- parts

pub put_skipped-returns-clause-cells : goal.put_skipped-returns-clause-cells
put_skipped-returns-clause-cells t c =
    kept c.put_after.result _ _ _ _ (ap (λ i. after_code (plain_guard c.args.guard) c.args.at i (plain_expr c.args.e.now)) (sym (c.skip_instr.ensures ∙ ap (skip_instr c.args.skip) c.in_ok-end.ensures))) c.put_after.ensures.cells

pub put_skipped-returns-clause-place : goal.put_skipped-returns-clause-place
put_skipped-returns-clause-place t c =
    c.put_after.ensures.place

pub put_chosen-returns-clause-cells : goal.put_chosen-returns-clause-cells
put_chosen-returns-clause-cells t c =
    kept c.put_after.result _ _ _ _ (ap (λ n. after_code (plain_guard c.args.guard) c.args.at (IfFalse n) (plain_expr c.args.body.now)) (sym (c.in_ok-no.ensures ∙ ap (λ n. n + 1) c.in_ok-past.ensures))) c.put_after.ensures.cells

pub put_chosen-returns-clause-place : goal.put_chosen-returns-clause-place
put_chosen-returns-clause-place t c =
    c.put_after.ensures.place

pub put_chain-returns-clause-cells : goal.put_chain-returns-clause-cells
put_chain-returns-clause-cells t c =
    kept c.put_links.result _ _ _ _ (ap (λ n. links_code (plain_guard c.args.guard) c.args.at n (plain_links c.args.links.now)) (sym (c.in_ok-end.ensures ∙ ap (λ n. c.args.at + n) c.in_ok-links_size.ensures))) c.put_links.ensures.cells

pub put_chain-returns-clause-place : goal.put_chain-returns-clause-place
put_chain-returns-clause-place t c =
    c.put_links.ensures.place

pub put_args-returns-clause-cells : goal.put_args-returns-clause-cells
put_args-returns-clause-cells t c =
    kept c.put_row.result _ _ _ _ (ap (λ n. row_code (plain_guard c.args.guard) c.args.at (plain_exprs c.args.args.now) (Call n)) (sym c.in_ok-size.ensures)) c.put_row.ensures.cells

pub put_args-returns-clause-place : goal.put_args-returns-clause-place
put_args-returns-clause-place t c =
    c.put_row.ensures.place

pub put_then-returns-clause-cells : goal.put_then-returns-clause-cells
put_then-returns-clause-cells t c =
    then c.put.result _ _ _ _ _ _ c.put.ensures.cells c.in_ok-at.ensures.cells refl

pub put_then-returns-clause-place : goal.put_then-returns-clause-place
put_then-returns-clause-place t c =
    the_number c.put.result _ _ c.put.ensures.place (ap (λ n. n + 1) c.in_ok-at.ensures.place)

pub put_row-returns-clause-cells : goal.put_row-returns-clause-cells
put_row-returns-clause-cells t c =
    then c.put.result _ _ _ _ _ _ c.put.ensures.cells c.in_ok-at.ensures.cells refl

pub put_row-returns-clause-place : goal.put_row-returns-clause-place
put_row-returns-clause-place t c =
    the_number c.put.result _ _ c.put.ensures.place (ap (λ n. n + 1) c.in_ok-at.ensures.place)

pub put_after-returns-clause-cells : goal.put_after-returns-clause-cells
put_after-returns-clause-cells t c =
    then c.put_expr.result _ _ _ _ _ _ c.put_expr.ensures.cells c.in_ok-at.ensures.cells (ap (λ n. put (plain_guard c.args.guard) (plain c.args.instr) (expr_code (plain_guard c.args.guard) n (plain_expr c.args.e.now))) (sym c.in_ok-at.ensures.place))

pub put_after-returns-clause-place : goal.put_after-returns-clause-place
put_after-returns-clause-place t c =
    the_number c.put_expr.result _ _ c.put_expr.ensures.place (ap (λ n. n + expr_size (plain_expr c.args.e.now)) c.in_ok-at.ensures.place)

-- ---- turns

pub put_each-loop-e-preserved : goal.put_each-loop-e-preserved
put_each-loop-e-preserved t c = record {
  cells = each_added (plain_guard c.args.guard) c.loop-e.to c.in_ok-to.to c.args.items.now c.loop-e.e-index c.e-item.result _ _ _ c.loop-e-test.true c.e-item.is c.in_ok-to.ensures.cells c.in_ok-to.ensures.place c.loop-e.invariant.cells;
  place = counted_turn (λ xs. each_size (plain_exprs xs)) (λ x. expr_size (plain_expr x)) (λ x xs. refl) c.args.items.now c.loop-e.e-index c.e-item.result c.loop-e.to c.in_ok-to.to _ c.loop-e-test.true c.e-item.is c.in_ok-to.ensures.place c.loop-e.invariant.place;
}

pub put_pairs-loop-pair-preserved : goal.put_pairs-loop-pair-preserved
put_pairs-loop-pair-preserved t c = record {
  cells = pairs_added (plain_guard c.args.guard) c.loop-pair.to c.in_ok-to.to c.in_ok-to-2.to c.in_ok-to-3.to c.args.items.now c.loop-pair.pair-index c.pair-item.result _ _ _ _ _ c.loop-pair-test.true c.pair-item.is c.in_ok-to.ensures.cells c.in_ok-to.ensures.place c.in_ok-to-2.ensures.cells c.in_ok-to-2.ensures.place c.in_ok-to-3.ensures.cells c.in_ok-to-3.ensures.place c.loop-pair.invariant.cells;
  place = counted_turn (λ ps. pairs_size (plain_pairs ps)) (λ p. expr_size (plain_expr (out-Pair p).key) + expr_size (plain_expr (out-Pair p).value) + 1) (λ p ps. ap pairs_size (pair_first p ps)) c.args.items.now c.loop-pair.pair-index c.pair-item.result c.loop-pair.to c.in_ok-to-3.to _ c.loop-pair-test.true c.pair-item.is
      (c.in_ok-to-3.ensures.place ∙ ap (λ n. n + 1) c.in_ok-to-2.ensures.place ∙ then_placed _ _ _ _ c.in_ok-to.ensures.place) c.loop-pair.invariant.place;
}

pub put_each-returns-clause-cells : goal.put_each-returns-clause-cells
put_each-returns-clause-cells t c =
    none_added (λ xs. each_code (plain_guard c.args.guard) c.loop-e.to (plain_exprs xs)) refl _ _ _ _ c.loop-e-test.false c.loop-e.invariant.cells

pub put_each-returns-clause-place : goal.put_each-returns-clause-place
put_each-returns-clause-place t c =
    none_counted (λ xs. each_size (plain_exprs xs)) refl _ _ _ _ c.loop-e-test.false c.loop-e.invariant.place

pub put_pairs-returns-clause-cells : goal.put_pairs-returns-clause-cells
put_pairs-returns-clause-cells t c =
    none_added (λ xs. pairs_code (plain_guard c.args.guard) c.loop-pair.to (plain_pairs xs)) refl _ _ _ _ c.loop-pair-test.false c.loop-pair.invariant.cells

pub put_pairs-returns-clause-place : goal.put_pairs-returns-clause-place
put_pairs-returns-clause-place t c =
    none_counted (λ xs. pairs_size (plain_pairs xs)) refl _ _ _ _ c.loop-pair-test.false c.loop-pair.invariant.place

pub put_fragments-returns-clause-cells : goal.put_fragments-returns-clause-cells
put_fragments-returns-clause-cells t c =
    none_added (λ xs. fragments_code (plain_guard c.args.guard) c.loop-fragment.to (plain_fragments xs)) refl _ _ _ _ c.loop-fragment-test.false c.loop-fragment.invariant.cells

pub put_fragments-returns-clause-place : goal.put_fragments-returns-clause-place
put_fragments-returns-clause-place t c =
    none_counted (λ xs. fragments_size (plain_fragments xs)) refl _ _ _ _ c.loop-fragment-test.false c.loop-fragment.invariant.place

pub put_parts-returns-clause-cells : goal.put_parts-returns-clause-cells
put_parts-returns-clause-cells t c =
    none_added (λ xs. parts_code (plain_guard c.args.guard) c.loop-part.to (plain_parts xs)) refl _ _ _ _ c.loop-part-test.false c.loop-part.invariant.cells

pub put_parts-returns-clause-place : goal.put_parts-returns-clause-place
put_parts-returns-clause-place t c =
    none_counted (λ xs. parts_size (plain_parts xs)) refl _ _ _ _ c.loop-part-test.false c.loop-part.invariant.place

-- ---- what fails is passed on

pub put_after-returns-in_err-at : goal.put_after-returns-in_err-at
put_after-returns-in_err-at t c = record { cells = IfOk-from_err c.from_residual.result _ c.from_residual.ensures.0; place = IfOk-from_err c.from_residual.result _ c.from_residual.ensures.0 }

pub put_args-returns-in_err-size : goal.put_args-returns-in_err-size
put_args-returns-in_err-size t c = record { cells = IfOk-from_err c.from_residual.result _ c.from_residual.ensures.0; place = IfOk-from_err c.from_residual.result _ c.from_residual.ensures.0 }

pub put_callee-returns-in_err-name-in-Attr : goal.put_callee-returns-in_err-name-in-Attr
put_callee-returns-in_err-name-in-Attr t c = record { cells = IfOk-from_err c.from_residual.result _ c.from_residual.ensures.0; place = IfOk-from_err c.from_residual.result _ c.from_residual.ensures.0 }

pub put_chain-returns-in_err-end : goal.put_chain-returns-in_err-end
put_chain-returns-in_err-end t c = record { cells = IfOk-from_err c.from_residual-in_err-end.result _ c.from_residual-in_err-end.ensures.0; place = IfOk-from_err c.from_residual-in_err-end.result _ c.from_residual-in_err-end.ensures.0 }

pub put_chain-returns-in_err-links_size : goal.put_chain-returns-in_err-links_size
put_chain-returns-in_err-links_size t c = record { cells = IfOk-from_err c.from_residual.result _ c.from_residual.ensures.0; place = IfOk-from_err c.from_residual.result _ c.from_residual.ensures.0 }

pub put_chosen-returns-in_err-no : goal.put_chosen-returns-in_err-no
put_chosen-returns-in_err-no t c = record { cells = IfOk-from_err c.from_residual-in_err-no.result _ c.from_residual-in_err-no.ensures.0; place = IfOk-from_err c.from_residual-in_err-no.result _ c.from_residual-in_err-no.ensures.0 }

pub put_chosen-returns-in_err-past : goal.put_chosen-returns-in_err-past
put_chosen-returns-in_err-past t c = record { cells = IfOk-from_err c.from_residual.result _ c.from_residual.ensures.0; place = IfOk-from_err c.from_residual.result _ c.from_residual.ensures.0 }

pub put_each-returns-in_err-to : goal.put_each-returns-in_err-to
put_each-returns-in_err-to t c = record { cells = IfOk-from_err c.from_residual.result _ c.from_residual.ensures.0; place = IfOk-from_err c.from_residual.result _ c.from_residual.ensures.0 }

pub put_expr-returns-in_err-at-in-And : goal.put_expr-returns-in_err-at-in-And
put_expr-returns-in_err-at-in-And t c = record { cells = IfOk-from_err c.from_residual-in_err-at-in-And.result _ c.from_residual-in_err-at-in-And.ensures.0; place = IfOk-from_err c.from_residual-in_err-at-in-And.result _ c.from_residual-in_err-at-in-And.ensures.0 }

pub put_expr-returns-in_err-at-in-Binary : goal.put_expr-returns-in_err-at-in-Binary
put_expr-returns-in_err-at-in-Binary t c = record { cells = IfOk-from_err c.from_residual-in_err-at-in-Binary.result _ c.from_residual-in_err-at-in-Binary.ensures.0; place = IfOk-from_err c.from_residual-in_err-at-in-Binary.result _ c.from_residual-in_err-at-in-Binary.ensures.0 }

pub put_expr-returns-in_err-at-in-Call : goal.put_expr-returns-in_err-at-in-Call
put_expr-returns-in_err-at-in-Call t c = record { cells = IfOk-from_err c.from_residual-in_err-at-in-Call.result _ c.from_residual-in_err-at-in-Call.ensures.0; place = IfOk-from_err c.from_residual-in_err-at-in-Call.result _ c.from_residual-in_err-at-in-Call.ensures.0 }

pub put_expr-returns-in_err-at-in-Compare : goal.put_expr-returns-in_err-at-in-Compare
put_expr-returns-in_err-at-in-Compare t c = record { cells = IfOk-from_err c.from_residual-in_err-at-in-Compare.result _ c.from_residual-in_err-at-in-Compare.ensures.0; place = IfOk-from_err c.from_residual-in_err-at-in-Compare.result _ c.from_residual-in_err-at-in-Compare.ensures.0 }

pub put_expr-returns-in_err-at-in-Cond : goal.put_expr-returns-in_err-at-in-Cond
put_expr-returns-in_err-at-in-Cond t c = record { cells = IfOk-from_err c.from_residual-in_err-at-in-Cond.result _ c.from_residual-in_err-at-in-Cond.ensures.0; place = IfOk-from_err c.from_residual-in_err-at-in-Cond.result _ c.from_residual-in_err-at-in-Cond.ensures.0 }

pub put_expr-returns-in_err-at-in-Cond-2 : goal.put_expr-returns-in_err-at-in-Cond-2
put_expr-returns-in_err-at-in-Cond-2 t c = record { cells = IfOk-from_err c.from_residual-in_err-at-in-Cond-2.result _ c.from_residual-in_err-at-in-Cond-2.ensures.0; place = IfOk-from_err c.from_residual-in_err-at-in-Cond-2.result _ c.from_residual-in_err-at-in-Cond-2.ensures.0 }

pub put_expr-returns-in_err-at-in-Dict : goal.put_expr-returns-in_err-at-in-Dict
put_expr-returns-in_err-at-in-Dict t c = record { cells = IfOk-from_err c.from_residual-in_err-at-in-Dict.result _ c.from_residual-in_err-at-in-Dict.ensures.0; place = IfOk-from_err c.from_residual-in_err-at-in-Dict.result _ c.from_residual-in_err-at-in-Dict.ensures.0 }

pub put_expr-returns-in_err-at-in-FStr : goal.put_expr-returns-in_err-at-in-FStr
put_expr-returns-in_err-at-in-FStr t c = record { cells = IfOk-from_err c.from_residual.result _ c.from_residual.ensures.0; place = IfOk-from_err c.from_residual.result _ c.from_residual.ensures.0 }

pub put_expr-returns-in_err-at-in-Index : goal.put_expr-returns-in_err-at-in-Index
put_expr-returns-in_err-at-in-Index t c = record { cells = IfOk-from_err c.from_residual-in_err-at-in-Index.result _ c.from_residual-in_err-at-in-Index.ensures.0; place = IfOk-from_err c.from_residual-in_err-at-in-Index.result _ c.from_residual-in_err-at-in-Index.ensures.0 }

pub put_expr-returns-in_err-at-in-Or : goal.put_expr-returns-in_err-at-in-Or
put_expr-returns-in_err-at-in-Or t c = record { cells = IfOk-from_err c.from_residual-in_err-at-in-Or.result _ c.from_residual-in_err-at-in-Or.ensures.0; place = IfOk-from_err c.from_residual-in_err-at-in-Or.result _ c.from_residual-in_err-at-in-Or.ensures.0 }

pub put_expr-returns-in_err-at-in-Slice : goal.put_expr-returns-in_err-at-in-Slice
put_expr-returns-in_err-at-in-Slice t c = record { cells = IfOk-from_err c.from_residual-in_err-at-in-Slice.result _ c.from_residual-in_err-at-in-Slice.ensures.0; place = IfOk-from_err c.from_residual-in_err-at-in-Slice.result _ c.from_residual-in_err-at-in-Slice.ensures.0 }

pub put_expr-returns-in_err-at-in-Slice-2 : goal.put_expr-returns-in_err-at-in-Slice-2
put_expr-returns-in_err-at-in-Slice-2 t c = record { cells = IfOk-from_err c.from_residual-in_err-at-in-Slice-2.result _ c.from_residual-in_err-at-in-Slice-2.ensures.0; place = IfOk-from_err c.from_residual-in_err-at-in-Slice-2.result _ c.from_residual-in_err-at-in-Slice-2.ensures.0 }

pub put_expr-returns-in_err-at-in-Slice-3 : goal.put_expr-returns-in_err-at-in-Slice-3
put_expr-returns-in_err-at-in-Slice-3 t c = record { cells = IfOk-from_err c.from_residual-in_err-at-in-Slice-3.result _ c.from_residual-in_err-at-in-Slice-3.ensures.0; place = IfOk-from_err c.from_residual-in_err-at-in-Slice-3.result _ c.from_residual-in_err-at-in-Slice-3.ensures.0 }

pub put_expr-returns-in_err-name-in-Attr : goal.put_expr-returns-in_err-name-in-Attr
put_expr-returns-in_err-name-in-Attr t c = record { cells = IfOk-from_err c.from_residual-in_err-name-in-Attr.result _ c.from_residual-in_err-name-in-Attr.ensures.0; place = IfOk-from_err c.from_residual-in_err-name-in-Attr.result _ c.from_residual-in_err-name-in-Attr.ensures.0 }

pub put_expr-returns-in_err-size-in-List : goal.put_expr-returns-in_err-size-in-List
put_expr-returns-in_err-size-in-List t c = record { cells = IfOk-from_err c.from_residual-in_err-size-in-List.result _ c.from_residual-in_err-size-in-List.ensures.0; place = IfOk-from_err c.from_residual-in_err-size-in-List.result _ c.from_residual-in_err-size-in-List.ensures.0 }

pub put_expr-returns-in_err-size-in-Tuple : goal.put_expr-returns-in_err-size-in-Tuple
put_expr-returns-in_err-size-in-Tuple t c = record { cells = IfOk-from_err c.from_residual-in_err-size-in-Tuple.result _ c.from_residual-in_err-size-in-Tuple.ensures.0; place = IfOk-from_err c.from_residual-in_err-size-in-Tuple.result _ c.from_residual-in_err-size-in-Tuple.ensures.0 }

pub put_fragments-returns-in_err-to-in-Format : goal.put_fragments-returns-in_err-to-in-Format
put_fragments-returns-in_err-to-in-Format t c = record { cells = IfOk-from_err c.from_residual-in_err-to-in-Format.result _ c.from_residual-in_err-to-in-Format.ensures.0; place = IfOk-from_err c.from_residual-in_err-to-in-Format.result _ c.from_residual-in_err-to-in-Format.ensures.0 }

pub put_fragments-returns-in_err-to-in-Plain : goal.put_fragments-returns-in_err-to-in-Plain
put_fragments-returns-in_err-to-in-Plain t c = record { cells = IfOk-from_err c.from_residual.result _ c.from_residual.ensures.0; place = IfOk-from_err c.from_residual.result _ c.from_residual.ensures.0 }

pub put_links-returns-in_err-at : goal.put_links-returns-in_err-at
put_links-returns-in_err-at t c = record { cells = IfOk-from_err c.from_residual.result _ c.from_residual.ensures.0; place = IfOk-from_err c.from_residual.result _ c.from_residual.ensures.0 }

pub put_links-returns-in_err-to : goal.put_links-returns-in_err-to
put_links-returns-in_err-to t c = record { cells = IfOk-from_err c.from_residual-in_err-to.result _ c.from_residual-in_err-to.ensures.0; place = IfOk-from_err c.from_residual-in_err-to.result _ c.from_residual-in_err-to.ensures.0 }

pub put_links-returns-in_err-to-2 : goal.put_links-returns-in_err-to-2
put_links-returns-in_err-to-2 t c = record { cells = IfOk-from_err c.from_residual-in_err-to-2.result _ c.from_residual-in_err-to-2.ensures.0; place = IfOk-from_err c.from_residual-in_err-to-2.result _ c.from_residual-in_err-to-2.ensures.0 }

pub put_pairs-returns-in_err-to : goal.put_pairs-returns-in_err-to
put_pairs-returns-in_err-to t c = record { cells = IfOk-from_err c.from_residual.result _ c.from_residual.ensures.0; place = IfOk-from_err c.from_residual.result _ c.from_residual.ensures.0 }

pub put_pairs-returns-in_err-to-2 : goal.put_pairs-returns-in_err-to-2
put_pairs-returns-in_err-to-2 t c = record { cells = IfOk-from_err c.from_residual-in_err-to-2.result _ c.from_residual-in_err-to-2.ensures.0; place = IfOk-from_err c.from_residual-in_err-to-2.result _ c.from_residual-in_err-to-2.ensures.0 }

pub put_pairs-returns-in_err-to-3 : goal.put_pairs-returns-in_err-to-3
put_pairs-returns-in_err-to-3 t c = record { cells = IfOk-from_err c.from_residual-in_err-to-3.result _ c.from_residual-in_err-to-3.ensures.0; place = IfOk-from_err c.from_residual-in_err-to-3.result _ c.from_residual-in_err-to-3.ensures.0 }

pub put_parts-returns-in_err-to-in-Chars : goal.put_parts-returns-in_err-to-in-Chars
put_parts-returns-in_err-to-in-Chars t c = record { cells = IfOk-from_err c.from_residual.result _ c.from_residual.ensures.0; place = IfOk-from_err c.from_residual.result _ c.from_residual.ensures.0 }

pub put_parts-returns-in_err-to-in-Field : goal.put_parts-returns-in_err-to-in-Field
put_parts-returns-in_err-to-in-Field t c = record { cells = IfOk-from_err c.from_residual-in_err-to-in-Field.result _ c.from_residual-in_err-to-in-Field.ensures.0; place = IfOk-from_err c.from_residual-in_err-to-in-Field.result _ c.from_residual-in_err-to-in-Field.ensures.0 }

pub put_parts-returns-in_err-to-in-Field-2 : goal.put_parts-returns-in_err-to-in-Field-2
put_parts-returns-in_err-to-in-Field-2 t c = record { cells = IfOk-from_err c.from_residual-in_err-to-in-Field-2.result _ c.from_residual-in_err-to-in-Field-2.ensures.0; place = IfOk-from_err c.from_residual-in_err-to-in-Field-2.result _ c.from_residual-in_err-to-in-Field-2.ensures.0 }

pub put_parts-returns-in_err-to-in-Field-3 : goal.put_parts-returns-in_err-to-in-Field-3
put_parts-returns-in_err-to-in-Field-3 t c = record { cells = IfOk-from_err c.from_residual-in_err-to-in-Field-3.result _ c.from_residual-in_err-to-in-Field-3.ensures.0; place = IfOk-from_err c.from_residual-in_err-to-in-Field-3.result _ c.from_residual-in_err-to-in-Field-3.ensures.0 }

pub put_row-returns-in_err-at : goal.put_row-returns-in_err-at
put_row-returns-in_err-at t c = record { cells = IfOk-from_err c.from_residual.result _ c.from_residual.ensures.0; place = IfOk-from_err c.from_residual.result _ c.from_residual.ensures.0 }

pub put_skipped-returns-in_err-end : goal.put_skipped-returns-in_err-end
put_skipped-returns-in_err-end t c = record { cells = IfOk-from_err c.from_residual.result _ c.from_residual.ensures.0; place = IfOk-from_err c.from_residual.result _ c.from_residual.ensures.0 }

pub put_then-returns-in_err-at : goal.put_then-returns-in_err-at
put_then-returns-in_err-at t c = record { cells = IfOk-from_err c.from_residual.result _ c.from_residual.ensures.0; place = IfOk-from_err c.from_residual.result _ c.from_residual.ensures.0 }

pub put_unary-returns-in_err-at : goal.put_unary-returns-in_err-at
put_unary-returns-in_err-at t c = record { cells = IfOk-from_err c.from_residual.result _ c.from_residual.ensures.0; place = IfOk-from_err c.from_residual.result _ c.from_residual.ensures.0 }

pub put_links-returns-then-is_empty-clause-place : goal.put_links-returns-then-is_empty-clause-place
put_links-returns-then-is_empty-clause-place t c = grind (arith, common_steps)

pub put_links-returns-then-is_empty-clause-cells : goal.put_links-returns-then-is_empty-clause-cells
put_links-returns-then-is_empty-clause-cells t c = grind (arith, common_steps)

pub put_unary-returns-clause-cells : goal.put_unary-returns-clause-cells
put_unary-returns-clause-cells t c = grind (arith, common_steps)
