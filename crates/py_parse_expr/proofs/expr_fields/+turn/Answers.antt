use Rattle.std.proofs.Common.{◌≡◌, ◌-◌, ◌++◌, ◌∷◌, [], Err, sym, ap, subst, ◌∙◌, arith}
use Rattle.py_token.specs.View.{view_kind}
use Rattle.py_syntax.specs.Kinds.{bare_kind}
use Rattle.py_syntax.specs.declared.expr.FormatPart.TheVariants as part_
use Rattle.py_syntax.specs.Normal.{LExprs}
use Rattle.py_grammar.specs.Machine.{any, Ctx, Want, start, class, parts, field_expr}
use Rattle.py_parse_expr.specs.ExprViews.{view_class}
use Rattle.py_parse_expr.specs.ExprStacks.{view_stack}
use Rattle.py_parse_expr.specs.ExprTurns.{view_at}
use Rattle.py_parse_fields.specs.Order.{plain_pieces}
use Rattle.py_parse_expr.specs.ExprFields.{AreParts}
use Rattle.py_parse_fields.proofs.Runs.{row}
use Rattle.py_parse_expr.proofs.View.ExprClasses.{plain_valid}
use Rattle.py_parse_expr.proofs.View.ExprFields.{same_limit, token_goes, quiet_goes, format_goes, bad_goes, deep_goes, field_next, field_stuck, field_left, field_deep, field_over, parts_chars, parts_field, parts_end, parts_unread}
use Rattle.py_parse_expr.proofs.expr_fields.+turn.Goals as goal
use Rattle.py_parse_expr.proofs.expr_fields.+turn.Goals.{fields-in-Chars+in_ok-copy-in-Chars+in_ok-push-in-Chars, fields-in-Field+in_ok-measured-in-Field+in-Ok+in_ok-push-in-Ok}

pub turn-step-requires-clause-class : goal.turn-step-requires-clause-class
turn-step-requires-clause-class t c = plain_valid c.in_ok-class_of.field-0 (class (bare_kind (view_kind c.args.kind.now))) c.in_ok-class_of.ensures

pub turn-returns-in_default : goal.turn-returns-in_default
turn-returns-in_default t c = token_goes (view_at c.args.progress (view_stack c.args.stack.now)) c.args.stack.now.limit c.step.new.stack (bare_kind (view_kind c.args.kind.now)) (view_class c.in_ok-class_of.field-0) c.step.result c.in_default.ensures c.in_ok-class_of.ensures c.step.ensures

pub turn-returns-then-not-takes_string : goal.turn-returns-then-not-takes_string
turn-returns-then-not-takes_string t c = quiet_goes (view_at c.args.progress (view_stack c.args.stack.now)) c.args.stack.now.limit c.step-then-not-takes_string.new.stack (bare_kind (view_kind c.args.kind.now)) (plain_pieces c.in-Some.pieces.now) c.step-then-not-takes_string.result c.in-Some.ensures (sym (c.if-not-takes_string.ensures (view_stack c.args.stack.now))) c.step-then-not-takes_string.ensures

pub turn-fields-requires : goal.turn-fields-requires
turn-fields-requires t c = let d = c.decreases in (omega arith, c.requires.valid.low)

pub turn-returns-in-Ok : goal.turn-returns-in-Ok
turn-returns-in-Ok t c = format_goes (view_at c.args.progress (view_stack c.args.stack.now)) c.args.stack.now.limit c.step-in-Ok.new.stack (bare_kind (view_kind c.args.kind.now)) (plain_pieces c.in-Some.pieces.now) c.in-Ok.fields c.step-in-Ok.result c.in-Some.ensures (rw c.in-Ok.is at c.in_ok-fields.ensures) c.step-in-Ok.ensures

pub turn-returns-in-Err-Unspelled : goal.turn-returns-in-Err-Unspelled
turn-returns-in-Err-Unspelled t c = bad_goes (view_at c.args.progress (view_stack c.args.stack.now)) c.args.stack.now.limit c.args.stack.now (bare_kind (view_kind c.args.kind.now)) (plain_pieces c.in-Some.pieces.now) c.in-Some.ensures (sym (c.if-not-takes_string.ensures (view_stack c.args.stack.now))) (subst (AreParts c.args.stack.now.limit (parts (plain_pieces c.in-Some.pieces.now))) (c.in-Err-Unspelled.is ∙ ap Err c.in-Err-Unspelled.field-0-is) c.in_ok-fields.ensures)

pub turn-returns : goal.turn-returns
turn-returns t c = deep_goes (view_at c.args.progress (view_stack c.args.stack.now)) c.args.stack.now.limit c.args.stack.now (bare_kind (view_kind c.args.kind.now)) (plain_pieces c.in-Some.pieces.now) c.in-Some.ensures (sym (c.if-not-takes_string.ensures (view_stack c.args.stack.now))) (subst (AreParts c.args.stack.now.limit (parts (plain_pieces c.in-Some.pieces.now))) (c.in-Err-TooDeep.is ∙ ap Err c.in-Err-TooDeep.field-0-is) c.in_ok-fields.ensures)

pub field-tokens-init : goal.field-tokens-init
field-tokens-init t c = record {
  is = ap (λ (k : Ctx). field_expr (Want LExprs k) (row c.args.tokens.now)) (sym c.new-stack.ensures.view);
  place = tt;
  valid = c.new-stack.ensures.valid;
}

pub field-turn-requires : goal.field-turn-requires
field-turn-requires t c = let d = c.decreases in let same = c.tokens.invariant.valid.same in (omega arith, (same_limit c.args.limit c.tokens.stack c.tokens.invariant.valid, c.tokens.invariant.place))

pub fields-returns-in-Err : goal.fields-returns-in-Err
fields-returns-in-Err t c = let some = c.if-limit-eq0.false in parts_unread c.args.pieces.now c.pieces.piece-index c.piece-item.result (parts (plain_pieces c.args.pieces.now)) c.pieces.parts.items c.pieces.height c.pieces-test.true c.piece-item.is c.pieces.invariant c.args.limit c.in-Field.tokens c.deref.result.now c.in-Err.unread (omega arith) c.in-Field.is c.deref.ensures.value (rw c.in-Err.is at c.in_ok-measured-in-Field.ensures)

pub field-returns-in-Stuck : goal.field-returns-in-Stuck
field-returns-in-Stuck t c = field_stuck c.args.limit (field_expr (start any) (row c.args.tokens.now)) c.args.tokens.now c.tokens.token-index c.token-item.result c.tokens.progress c.tokens.stack c.turn.new.stack c.in_ok-next.field-0 c.tokens-test.true c.token-item.is c.tokens.invariant c.in_ok-next.ensures c.in-Stuck.is

pub field-returns-in-Deep : goal.field-returns-in-Deep
field-returns-in-Deep t c = field_deep c.args.limit (field_expr (start any) (row c.args.tokens.now)) c.args.tokens.now c.tokens.token-index c.token-item.result c.tokens.progress c.tokens.stack c.turn.new.stack c.in_ok-next.field-0 c.tokens-test.true c.token-item.is c.tokens.invariant c.in_ok-next.ensures c.in-Deep.is

pub field-returns-in-Left : goal.field-returns-in-Left
field-returns-in-Left t c = field_left c.args.limit (field_expr (start any) (row c.args.tokens.now)) c.args.tokens.now c.tokens.token-index c.token-item.result c.tokens.progress c.tokens.stack c.turn.new.stack c.in_ok-next.field-0 c.tokens-test.true c.token-item.is c.tokens.invariant c.in_ok-next.ensures c.in-Left.measured c.in-Left.is

pub field-tokens-preserved : goal.field-tokens-preserved
field-tokens-preserved t c = field_next c.args.limit (field_expr (start any) (row c.args.tokens.now)) c.args.tokens.now c.tokens.token-index c.token-item.result c.tokens.progress c.tokens.stack c.turn.new.stack c.in_ok-next.field-0 c.tokens-test.true c.token-item.is c.tokens.invariant c.in_ok-next.ensures c.in-Next.next c.in-Next.is

pub field-step-requires-clause-valid : goal.field-step-requires-clause-valid
field-step-requires-clause-valid t c = same_limit c.args.limit c.tokens.stack c.tokens.invariant.valid

pub field-returns : goal.field-returns
field-returns t c = rw c.ended.ensures (field_over c.args.limit (field_expr (start any) (row c.args.tokens.now)) c.args.tokens.now c.tokens.token-index c.tokens.progress c.tokens.stack c.step.new.stack c.in_ok-step.field-0 c.tokens-test.false c.tokens.invariant c.in_ok-step.ensures)

pub fields-pieces-preserved : goal.fields-pieces-preserved
fields-pieces-preserved t c = elim c.match-piece.branch [
  | fields-in-Chars+in_ok-copy-in-Chars+in_ok-push-in-Chars w ↦
      let same : w.in_ok-copy-in-Chars.field-0 ≡ w.in-Chars.text = w.in_ok-copy-in-Chars.ensures in
      rw w.parts-is rw w.height-is (parts_chars c.args.pieces.now c.pieces.piece-index c.piece-item.result (parts (plain_pieces c.args.pieces.now)) c.pieces.parts.items c.pieces.height c.pieces-test.true c.piece-item.is c.pieces.invariant w.in-Chars.text w.push.new.self.items w.in-Chars.is (w.in_ok-push-in-Chars.ensures.items ∙ ap (λ x. c.pieces.parts.items ++ part_.Chars x ∷ []) same))
  | fields-in-Field+in_ok-measured-in-Field+in-Ok+in_ok-push-in-Ok w ↦
      rw w.parts-is rw w.height-is (parts_field c.args.pieces.now c.pieces.piece-index c.piece-item.result (parts (plain_pieces c.args.pieces.now)) c.pieces.parts.items c.pieces.height c.pieces-test.true c.piece-item.is c.pieces.invariant (c.args.limit - 1) w.in-Field.tokens w.deref.result.now w.in-Ok.measured w.into_inner.result w.push-in-Ok.new.self.items w.higher-height.result w.in-Field.is w.deref.ensures.value (rw w.in-Ok.is at w.in_ok-measured-in-Field.ensures) w.into_inner.ensures w.in_ok-push-in-Ok.ensures.items w.higher-height.ensures)
]

pub fields-returns : goal.fields-returns
fields-returns t c = parts_end c.args.pieces.now c.pieces.piece-index (parts (plain_pieces c.args.pieces.now)) c.pieces.parts c.pieces.height c.args.limit c.pieces-test.false c.pieces.invariant
