use Rattle.std.proofs.Common.{◌+◌, is_some, arith}
use Rattle.std.proofs.lemmas.Result.{IfOk-from_err}
use Rattle.py_grammar.specs.Machine.{any, start, field_expr}
use Rattle.py_parse_fields.specs.declared.reader.Turn.TheVariants as turn_
use Rattle.py_parse_fields.specs.Order.{waiting_of, field_weight}
use Rattle.py_parse_fields.proofs.Runs.{row}
use Rattle.py_parse_fields.proofs.Order.{field_begins, field_next, field_ends}
use Rattle.py_parse_fields.proofs.fields.is_field.Goals as goal

pub tokens-init : goal.tokens-init
tokens-init c = field_begins c.new.result.items (waiting_of c.args.waiting.now.items) (row c.args.tokens.now) c.new.ensures.items

pub returns-in-Stuck : goal.returns-in-Stuck
returns-in-Stuck c =
    let a = field_next c.args.tokens.now c.tokens.token-index c.token-item.result c.tokens.reader c.in_ok-class_of.field-0 turn_.Stuck (is_some (field_expr (start any) (row c.args.tokens.now))) (field_weight (row c.args.tokens.now) + 1) (waiting_of c.args.waiting.now.items) (waiting_of c.tokens.waiting.items) (waiting_of c.class_of.new.waiting.items) c.tokens-test.true c.token-item.is c.in_ok-class_of.ensures (rw c.in-Stuck.is at c.in_ok-next.ensures) c.tokens.invariant in
    let low = a.3 in
    record { added = a.0; waits = a.1; is = a.2; few = omega arith }

pub returns-in-Left : goal.returns-in-Left
returns-in-Left c =
    let a = field_next c.args.tokens.now c.tokens.token-index c.token-item.result c.tokens.reader c.in_ok-class_of.field-0 turn_.Left (is_some (field_expr (start any) (row c.args.tokens.now))) (field_weight (row c.args.tokens.now) + 1) (waiting_of c.args.waiting.now.items) (waiting_of c.tokens.waiting.items) (waiting_of c.class_of.new.waiting.items) c.tokens-test.true c.token-item.is c.in_ok-class_of.ensures (rw c.in-Left.is at c.in_ok-next.ensures) c.tokens.invariant in
    let low = a.3 in
    record { added = a.0; waits = a.1; is = a.2; few = omega arith }

pub tokens-preserved : goal.tokens-preserved
tokens-preserved c =
    let a = field_next c.args.tokens.now c.tokens.token-index c.token-item.result c.tokens.reader c.in_ok-class_of.field-0 (turn_.Next c.in-Next.next) (is_some (field_expr (start any) (row c.args.tokens.now))) (field_weight (row c.args.tokens.now) + 1) (waiting_of c.args.waiting.now.items) (waiting_of c.tokens.waiting.items) (waiting_of c.class_of.new.waiting.items) c.tokens-test.true c.token-item.is c.in_ok-class_of.ensures (rw c.in-Next.is at c.in_ok-next.ensures) c.tokens.invariant in
    record { added = a.0; waits = a.1; is = a.2; few = a.3 }

pub returns : goal.returns
returns c = field_ends c.args.tokens.now c.tokens.token-index c.tokens.reader c.in_ok-act.field-0 (is_some (field_expr (start any) (row c.args.tokens.now))) c.is_left.result (field_weight (row c.args.tokens.now) + 1) (waiting_of c.args.waiting.now.items) (waiting_of c.tokens.waiting.items) c.tokens-test.false c.in_ok-act.ensures c.is_left.ensures c.tokens.invariant

pub returns-in_err-class_of : goal.returns-in_err-class_of
returns-in_err-class_of c = IfOk-from_err c.from_residual.result _ c.from_residual.ensures.0

pub returns-in_err-next : goal.returns-in_err-next
returns-in_err-next c = IfOk-from_err c.from_residual-in_err-next.result _ c.from_residual-in_err-next.ensures.0

pub returns-in_err-act : goal.returns-in_err-act
returns-in_err-act c = IfOk-from_err c.from_residual-in_err-act.result _ c.from_residual-in_err-act.ensures.0
