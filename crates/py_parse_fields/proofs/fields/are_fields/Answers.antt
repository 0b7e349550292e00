use Rattle.std.proofs.Common.{◌+◌, drop, is_some, true, false, arith}
use Rattle.std.proofs.lemmas.Result.{IfOk-from_err}
use Rattle.py_grammar.specs.Machine.{parts}
use Rattle.py_parse_fields.specs.Order.{plain_pieces, waiting_of, weight}
use Rattle.py_parse_fields.proofs.Order.{pieces_begin, pieces_chars, pieces_field, pieces_end, weight_some}
use Rattle.py_parse_fields.proofs.fields.are_fields.Goals as goal
use Rattle.py_parse_fields.proofs.fields.are_fields.Goals.{in-Chars, in-Field+in_ok-is_field-in-Field+else-not-branch}

pub pieces-init : goal.pieces-init
pieces-init c = pieces_begin (waiting_of c.args.waiting.now.items) (plain_pieces c.args.pieces.now)

pub returns-then-not-branch : goal.returns-then-not-branch
returns-then-not-branch c =
    let a = pieces_field c.args.pieces.now c.pieces.piece-index c.piece-item.result c.in-Field.tokens c.deref.result.now c.in_ok-is_field-in-Field.field-0 false (is_some (parts (plain_pieces c.args.pieces.now))) (weight (plain_pieces c.args.pieces.now)) (waiting_of c.args.waiting.now.items) (waiting_of c.pieces.waiting.items) (waiting_of c.is_field.new.waiting.items) c.pieces-test.true c.piece-item.is c.in-Field.is c.deref.ensures.value c.if-not-branch.true c.in_ok-is_field-in-Field.ensures c.pieces.invariant in
    let low = a.3 in
    let some = weight_some (plain_pieces (drop (c.pieces.piece-index + 1) c.args.pieces.now)) in
    record { added = a.0; waits = a.1; is = a.2; few = omega arith }

pub pieces-preserved : goal.pieces-preserved
pieces-preserved c = elim c.match-piece.branch [
  | in-Chars w ↦ rw w.waiting-is (pieces_chars c.args.pieces.now c.pieces.piece-index c.piece-item.result _ _ _ _ _ c.pieces-test.true c.piece-item.is w.in-Chars.is c.pieces.invariant)
  | in-Field+in_ok-is_field-in-Field+else-not-branch w ↦
      let a = pieces_field c.args.pieces.now c.pieces.piece-index c.piece-item.result w.in-Field.tokens w.deref.result.now w.in_ok-is_field-in-Field.field-0 true (is_some (parts (plain_pieces c.args.pieces.now))) (weight (plain_pieces c.args.pieces.now)) (waiting_of c.args.waiting.now.items) (waiting_of c.pieces.waiting.items) (waiting_of w.is_field.new.waiting.items) c.pieces-test.true c.piece-item.is w.in-Field.is w.deref.ensures.value w.if-not-branch.false w.in_ok-is_field-in-Field.ensures c.pieces.invariant in
      rw w.waiting-is record { added = a.0; waits = a.1; is = a.2; few = a.3 }
]

pub returns : goal.returns
returns c = pieces_end c.args.pieces.now c.pieces.piece-index (is_some (parts (plain_pieces c.args.pieces.now))) (weight (plain_pieces c.args.pieces.now)) (waiting_of c.args.waiting.now.items) (waiting_of c.pieces.waiting.items) c.pieces-test.false c.pieces.invariant

pub returns-in_err-is_field-in-Field : goal.returns-in_err-is_field-in-Field
returns-in_err-is_field-in-Field c = IfOk-from_err c.from_residual.result _ c.from_residual.ensures.0
