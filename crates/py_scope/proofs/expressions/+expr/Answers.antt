use Rattle.std.proofs.Common.{List, [], ◌++◌, ◌+◌, drop, refl, ap, ◌∙◌}
use Rattle.py_syntax.specs.View.{plain_expr, plain_exprs, plain_pairs, plain_links, plain_fragments, plain_parts}
use Rattle.py_scope.specs.Occurrences.{in_expr, in_exprs, in_pairs, in_links, in_fragments, in_parts}
use Rattle.py_scope.specs.Parts.{in_end}
use Rattle.py_syntax.specs.declared.expr.Pair.{out-Pair}
use Rattle.py_syntax.specs.declared.expr.Fragment.{Fragment}
use Rattle.py_syntax.specs.declared.expr.FormatPart.{FormatPart}
use Rattle.py_syntax.specs.declared.expr.Link.{out-Link}
use Rattle.py_scope.proofs.Gathering.{listed, at_end, goes_on, three, both_taken, renamed, silent, stopped, a_turn, turned}
use Rattle.py_scope.proofs.Nodes.{name-is, int-is, str-is, fstr-is, none-is, bool-is, tuple-is, list-is, dict-is, paren-is, not-is, and-is, or-is, unary-is, binary-is, compare-is, cond-is, call-is, index-is, slice-is, attr-is, end-is, pairs-step, links-step, plain_fragment-is, format-is, chars-is, field-is}
use Rattle.py_scope.proofs.expressions.+expr.Goals as goal
use Rattle.py_scope.proofs.expressions.+expr.Goals.{fragments-in-Plain, fragments-in-Format+in_ok-parts-in-Format, parts-in-Chars, parts-in-Field+in_ok-expr-in-Field}

pub exprs-returns : goal.exprs-returns
exprs-returns t c = at_end listed (λ xs. in_exprs (plain_exprs xs)) refl _ _ _ _ c.loop-e-test.false c.loop-e.invariant

pub pairs-returns : goal.pairs-returns
pairs-returns t c = at_end listed (λ xs. in_pairs (plain_pairs xs)) refl _ _ _ _ c.loop-pair-test.false c.loop-pair.invariant

pub links-returns : goal.links-returns
links-returns t c = at_end listed (λ xs. in_links (plain_links xs)) refl _ _ _ _ c.loop-link-test.false c.loop-link.invariant

pub fragments-returns : goal.fragments-returns
fragments-returns t c = at_end listed (λ xs. in_fragments (plain_fragments xs)) refl _ _ _ _ c.loop-fragment-test.false c.loop-fragment.invariant

pub parts-returns : goal.parts-returns
parts-returns t c = at_end listed (λ xs. in_parts (plain_parts xs)) refl _ _ _ _ c.loop-part-test.false c.loop-part.invariant

-- ---- an expression by its form

pub expr-returns-in-Name : goal.expr-returns-in-Name
expr-returns-in-Name t c =
    renamed listed c.push_use.result _ _ _ _ (name-is c.args.e.now _ c.in-Name.is) c.push_use.ensures

pub expr-returns-in-Int : goal.expr-returns-in-Int
expr-returns-in-Int t c =
    silent listed _ _ (int-is c.args.e.now _ c.in-Int.is)

pub expr-returns-in-Str : goal.expr-returns-in-Str
expr-returns-in-Str t c =
    silent listed _ _ (str-is c.args.e.now _ c.in-Str.is)

pub expr-returns-in-Bool : goal.expr-returns-in-Bool
expr-returns-in-Bool t c =
    silent listed _ _ (bool-is c.args.e.now _ c.in-Bool.is)

pub expr-returns-in-None : goal.expr-returns-in-None
expr-returns-in-None t c =
    silent listed _ _ (none-is c.args.e.now c.in-None.is)

pub expr-returns-in-FStr : goal.expr-returns-in-FStr
expr-returns-in-FStr t c =
    renamed listed c.fragments.result _ _ _ _ (fstr-is c.args.e.now c.in-FStr.pieces _ c.in-FStr.is c.deref.ensures.value) c.fragments.ensures

pub expr-returns-in-Tuple : goal.expr-returns-in-Tuple
expr-returns-in-Tuple t c =
    renamed listed c.exprs.result _ _ _ _ (tuple-is c.args.e.now c.in-Tuple.items _ _ c.in-Tuple.is c.deref-in-Tuple.ensures.value) c.exprs.ensures

pub expr-returns-in-List : goal.expr-returns-in-List
expr-returns-in-List t c =
    renamed listed c.exprs-in-List.result _ _ _ _ (list-is c.args.e.now c.in-List.items _ _ c.in-List.is c.deref-in-List.ensures.value) c.exprs-in-List.ensures

pub expr-returns-in-Dict : goal.expr-returns-in-Dict
expr-returns-in-Dict t c =
    renamed listed c.pairs.result _ _ _ _ (dict-is c.args.e.now c.in-Dict.items _ _ c.in-Dict.is c.deref-in-Dict.ensures.value) c.pairs.ensures

pub expr-returns-in-Paren : goal.expr-returns-in-Paren
expr-returns-in-Paren t c =
    renamed listed c.expr.result _ _ _ _ (paren-is c.args.e.now c.in-Paren.inner _ c.in-Paren.is c.deref-in-Paren.ensures) c.expr.ensures

pub expr-returns-in-Not : goal.expr-returns-in-Not
expr-returns-in-Not t c =
    renamed listed c.expr-in-Not.result _ _ _ _ (not-is c.args.e.now c.in-Not.inner _ c.in-Not.is c.deref-in-Not.ensures) c.expr-in-Not.ensures

pub expr-returns-in-Unary : goal.expr-returns-in-Unary
expr-returns-in-Unary t c =
    renamed listed c.expr-in-Unary.result _ _ _ _ (unary-is c.args.e.now _ c.in-Unary.inner _ c.in-Unary.is c.deref-in-Unary.ensures) c.expr-in-Unary.ensures

pub expr-returns-in-Attr : goal.expr-returns-in-Attr
expr-returns-in-Attr t c =
    renamed listed c.expr-in-Attr.result _ _ _ _ (attr-is c.args.e.now c.in-Attr.of _ _ c.in-Attr.is c.deref-in-Attr.ensures) c.expr-in-Attr.ensures

pub expr-returns-in_ok-expr-in-And : goal.expr-returns-in_ok-expr-in-And
expr-returns-in_ok-expr-in-And t c =
    goes_on listed c.expr-in-And-2.result _ _ _ _ _ _ c.expr-in-And-2.ensures c.in_ok-expr-in-And.ensures
    (and-is c.args.e.now c.in-And.left c.in-And.right _ _ c.in-And.is c.deref-in-And.ensures c.deref-in-And-2.ensures)

pub expr-returns-in_ok-expr-in-Or : goal.expr-returns-in_ok-expr-in-Or
expr-returns-in_ok-expr-in-Or t c =
    goes_on listed c.expr-in-Or-2.result _ _ _ _ _ _ c.expr-in-Or-2.ensures c.in_ok-expr-in-Or.ensures
    (or-is c.args.e.now c.in-Or.left c.in-Or.right _ _ c.in-Or.is c.deref-in-Or.ensures c.deref-in-Or-2.ensures)

pub expr-returns-in_ok-expr-in-Binary : goal.expr-returns-in_ok-expr-in-Binary
expr-returns-in_ok-expr-in-Binary t c =
    goes_on listed c.expr-in-Binary-2.result _ _ _ _ _ _ c.expr-in-Binary-2.ensures c.in_ok-expr-in-Binary.ensures
    (binary-is c.args.e.now _ c.in-Binary.left c.in-Binary.right _ _ c.in-Binary.is c.deref-in-Binary.ensures c.deref-in-Binary-2.ensures)

pub expr-returns-in_ok-expr-in-Index : goal.expr-returns-in_ok-expr-in-Index
expr-returns-in_ok-expr-in-Index t c =
    goes_on listed c.expr-in-Index-2.result _ _ _ _ _ _ c.expr-in-Index-2.ensures c.in_ok-expr-in-Index.ensures
    (index-is c.args.e.now c.in-Index.of c.in-Index.at _ _ c.in-Index.is c.deref-in-Index.ensures c.deref-in-Index-2.ensures)

pub expr-returns-in_ok-expr-in-Compare : goal.expr-returns-in_ok-expr-in-Compare
expr-returns-in_ok-expr-in-Compare t c =
    goes_on listed c.links.result _ _ _ _ _ _ c.links.ensures c.in_ok-expr-in-Compare.ensures
    (compare-is c.args.e.now c.in-Compare.first c.in-Compare.rest _ _ c.in-Compare.is c.deref-in-Compare.ensures c.deref-in-Compare-2.ensures.value)

pub expr-returns-in_ok-expr-in-Call : goal.expr-returns-in_ok-expr-in-Call
expr-returns-in_ok-expr-in-Call t c =
    goes_on listed c.exprs-in-Call.result _ _ _ _ _ _ c.exprs-in-Call.ensures c.in_ok-expr-in-Call.ensures
    (call-is c.args.e.now c.in-Call.callee c.in-Call.args _ _ _ c.in-Call.is c.deref-in-Call.ensures c.deref-in-Call-2.ensures.value)

pub expr-returns-in_ok-expr-in-Cond-2 : goal.expr-returns-in_ok-expr-in-Cond-2
expr-returns-in_ok-expr-in-Cond-2 t c =
    three listed c.expr-in-Cond-3.result _ _ _ _ _ _ _ _ c.in_ok-expr-in-Cond.ensures c.in_ok-expr-in-Cond-2.ensures c.expr-in-Cond-3.ensures
    (cond-is c.args.e.now c.in-Cond.value c.in-Cond.test c.in-Cond.orelse _ _ _ c.in-Cond.is c.deref-in-Cond.ensures c.deref-in-Cond-2.ensures c.deref-in-Cond-3.ensures)

pub expr-returns-in_ok-bound-in-Slice : goal.expr-returns-in_ok-bound-in-Slice
expr-returns-in_ok-bound-in-Slice t c =
    three listed c.bound-in-Slice.result _ _ _ _ _ _ _ _ c.in_ok-expr-in-Slice.ensures c.in_ok-bound-in-Slice.ensures c.bound-in-Slice.ensures
    (slice-is c.args.e.now c.in-Slice.of c.in-Slice.from c.in-Slice.to _ c.in-Slice.is c.deref-in-Slice.ensures)

pub bound-returns-in-None : goal.bound-returns-in-None
bound-returns-in-None t c =
    silent listed _ _ (ap in_end c.in-None.is)

pub bound-returns-in-Some : goal.bound-returns-in-Some
bound-returns-in-Some t c =
    renamed listed c.expr.result _ _ _ _ (end-is c.args.e.now c.in-Some.e _ c.in-Some.is c.deref.ensures) c.expr.ensures

-- ---- memory that doesn't suffice

pub expr-returns-in_err-expr-in-And : goal.expr-returns-in_err-expr-in-And
expr-returns-in_err-expr-in-And t c =
    stopped _ c.from_residual.result c.from_residual.ensures.0

pub expr-returns-in_err-expr-in-Or : goal.expr-returns-in_err-expr-in-Or
expr-returns-in_err-expr-in-Or t c =
    stopped _ c.from_residual-in_err-expr-in-Or.result c.from_residual-in_err-expr-in-Or.ensures.0

pub expr-returns-in_err-expr-in-Binary : goal.expr-returns-in_err-expr-in-Binary
expr-returns-in_err-expr-in-Binary t c =
    stopped _ c.from_residual-in_err-expr-in-Binary.result c.from_residual-in_err-expr-in-Binary.ensures.0

pub expr-returns-in_err-expr-in-Compare : goal.expr-returns-in_err-expr-in-Compare
expr-returns-in_err-expr-in-Compare t c =
    stopped _ c.from_residual-in_err-expr-in-Compare.result c.from_residual-in_err-expr-in-Compare.ensures.0

pub expr-returns-in_err-expr-in-Cond : goal.expr-returns-in_err-expr-in-Cond
expr-returns-in_err-expr-in-Cond t c =
    stopped _ c.from_residual-in_err-expr-in-Cond.result c.from_residual-in_err-expr-in-Cond.ensures.0

pub expr-returns-in_err-expr-in-Cond-2 : goal.expr-returns-in_err-expr-in-Cond-2
expr-returns-in_err-expr-in-Cond-2 t c =
    stopped _ c.from_residual-in_err-expr-in-Cond-2.result c.from_residual-in_err-expr-in-Cond-2.ensures.0

pub expr-returns-in_err-expr-in-Call : goal.expr-returns-in_err-expr-in-Call
expr-returns-in_err-expr-in-Call t c =
    stopped _ c.from_residual-in_err-expr-in-Call.result c.from_residual-in_err-expr-in-Call.ensures.0

pub expr-returns-in_err-expr-in-Index : goal.expr-returns-in_err-expr-in-Index
expr-returns-in_err-expr-in-Index t c =
    stopped _ c.from_residual-in_err-expr-in-Index.result c.from_residual-in_err-expr-in-Index.ensures.0

pub expr-returns-in_err-expr-in-Slice : goal.expr-returns-in_err-expr-in-Slice
expr-returns-in_err-expr-in-Slice t c =
    stopped _ c.from_residual-in_err-expr-in-Slice.result c.from_residual-in_err-expr-in-Slice.ensures.0

pub expr-returns-in_err-bound-in-Slice : goal.expr-returns-in_err-bound-in-Slice
expr-returns-in_err-bound-in-Slice t c =
    stopped _ c.from_residual-in_err-bound-in-Slice.result c.from_residual-in_err-bound-in-Slice.ensures.0

pub exprs-returns-in_err-expr : goal.exprs-returns-in_err-expr
exprs-returns-in_err-expr t c =
    stopped _ c.from_residual.result c.from_residual.ensures.0

pub links-returns-in_err-expr : goal.links-returns-in_err-expr
links-returns-in_err-expr t c =
    stopped _ c.from_residual.result c.from_residual.ensures.0

pub pairs-returns-in_err-expr : goal.pairs-returns-in_err-expr
pairs-returns-in_err-expr t c =
    stopped _ c.from_residual.result c.from_residual.ensures.0

pub fragments-returns-in_err-parts-in-Format : goal.fragments-returns-in_err-parts-in-Format
fragments-returns-in_err-parts-in-Format t c =
    stopped _ c.from_residual.result c.from_residual.ensures.0

pub parts-returns-in_err-expr-in-Field : goal.parts-returns-in_err-expr-in-Field
parts-returns-in_err-expr-in-Field t c =
    stopped _ c.from_residual.result c.from_residual.ensures.0

pub pairs-returns-in_err-expr-2 : goal.pairs-returns-in_err-expr-2
pairs-returns-in_err-expr-2 t c =
    stopped _ c.from_residual-in_err-expr-2.result c.from_residual-in_err-expr-2.ensures.0

-- ---- turns of loops

pub exprs-loop-e-preserved : goal.exprs-loop-e-preserved
exprs-loop-e-preserved t c =
    a_turn listed (λ xs. in_exprs (plain_exprs xs)) (λ e. in_expr (plain_expr e)) (λ e es. refl) c.loop-e.out.items c.expr.new.out.items _ c.args.items.now c.loop-e.e-index c.e-item.result
    c.loop-e-test.true c.e-item.is c.in_ok-expr.ensures c.loop-e.invariant

pub links-loop-link-preserved : goal.links-loop-link-preserved
links-loop-link-preserved t c =
    a_turn listed (λ xs. in_links (plain_links xs)) (λ l. in_expr (plain_expr (out-Link l).right)) links-step c.loop-link.out.items c.expr.new.out.items _ c.args.items.now c.loop-link.link-index c.link-item.result
    c.loop-link-test.true c.link-item.is c.in_ok-expr.ensures c.loop-link.invariant

pub pairs-loop-pair-preserved : goal.pairs-loop-pair-preserved
pairs-loop-pair-preserved t c =
    a_turn listed (λ xs. in_pairs (plain_pairs xs)) (λ p. in_expr (plain_expr (out-Pair p).key) ++ in_expr (plain_expr (out-Pair p).value)) pairs-step c.loop-pair.out.items c.expr-in-loop-pair.new.out.items _ c.args.items.now c.loop-pair.pair-index c.pair-item.result
    c.loop-pair-test.true c.pair-item.is (both_taken listed c.loop-pair.out.items c.expr.new.out.items c.expr-in-loop-pair.new.out.items _ _ c.in_ok-expr.ensures c.in_ok-expr-2.ensures) c.loop-pair.invariant

pub fragments-loop-fragment-preserved : goal.fragments-loop-fragment-preserved
fragments-loop-fragment-preserved t c =
    let F = λ (xs : List Fragment). in_fragments (plain_fragments xs) in
    let rest = drop (c.loop-fragment.fragment-index + 1) c.args.items.now in
    elim c.match-fragment.branch [
      | fragments-in-Plain w ↦ turned listed F c.loop-fragment.out.items c.match-fragment.out.items _ c.args.items.now c.loop-fragment.fragment-index c.fragment-item.result [] c.loop-fragment-test.true c.fragment-item.is
          (plain_fragment-is c.fragment-item.result _ rest w.in-Plain.is) (ap (λ v. v.items) w.out-is ∙ silent listed _ _ refl) c.loop-fragment.invariant
      | fragments-in-Format+in_ok-parts-in-Format w ↦ turned listed F c.loop-fragment.out.items c.match-fragment.out.items _ c.args.items.now c.loop-fragment.fragment-index c.fragment-item.result _ c.loop-fragment-test.true c.fragment-item.is
          (format-is c.fragment-item.result w.in-Format.pieces _ rest w.in-Format.is w.deref.ensures.value) (ap (λ v. v.items) w.out-is ∙ w.in_ok-parts-in-Format.ensures) c.loop-fragment.invariant
    ]

pub parts-loop-part-preserved : goal.parts-loop-part-preserved
parts-loop-part-preserved t c =
    let F = λ (xs : List FormatPart). in_parts (plain_parts xs) in
    let rest = drop (c.loop-part.part-index + 1) c.args.items.now in
    elim c.match-part.branch [
      | parts-in-Chars w ↦ turned listed F c.loop-part.out.items c.match-part.out.items _ c.args.items.now c.loop-part.part-index c.part-item.result [] c.loop-part-test.true c.part-item.is
          (chars-is c.part-item.result _ rest w.in-Chars.is) (ap (λ v. v.items) w.out-is ∙ silent listed _ _ refl) c.loop-part.invariant
      | parts-in-Field+in_ok-expr-in-Field w ↦ turned listed F c.loop-part.out.items c.match-part.out.items _ c.args.items.now c.loop-part.part-index c.part-item.result _ c.loop-part-test.true c.part-item.is
          (field-is c.part-item.result w.in-Field.e rest w.in-Field.is) (ap (λ v. v.items) w.out-is ∙ w.in_ok-expr-in-Field.ensures) c.loop-part.invariant
    ]
