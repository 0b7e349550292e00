use Rattle.std.proofs.Common.{is_some, true, false, sym}
use Rattle.std.proofs.lemmas.Result.{IfOk-from_err}
use Rattle.py_grammar.specs.Machine.{parts}
use Rattle.py_parse_fields.specs.Order.{plain_pieces, waiting_of}
use Rattle.py_parse_fields.proofs.Order.{next_told, one_waits}
use Rattle.py_parse_fields.proofs.fields.are_read.Goals as goal

pub returns-then-not-branch : goal.returns-then-not-branch
returns-then-not-branch c = sym (next_told (is_some (parts (plain_pieces c.args.pieces.now))) c.in_ok-are_fields.field-0 false c.waiting.waiting.items c.pop.new.self.items c.in-Some.next (waiting_of c.are_fields.new.waiting.items) c.in-Some.ensures.items c.if-not-branch.true c.in_ok-are_fields.ensures c.waiting.invariant).0

pub waiting-smaller : goal.waiting-smaller
waiting-smaller c = (next_told (is_some (parts (plain_pieces c.args.pieces.now))) c.in_ok-are_fields.field-0 true c.waiting.waiting.items c.pop.new.self.items c.in-Some.next (waiting_of c.are_fields.new.waiting.items) c.in-Some.ensures.items c.if-not-branch.false c.in_ok-are_fields.ensures c.waiting.invariant).1

pub waiting-preserved : goal.waiting-preserved
waiting-preserved c = (next_told (is_some (parts (plain_pieces c.args.pieces.now))) c.in_ok-are_fields.field-0 true c.waiting.waiting.items c.pop.new.self.items c.in-Some.next (waiting_of c.are_fields.new.waiting.items) c.in-Some.ensures.items c.if-not-branch.false c.in_ok-are_fields.ensures c.waiting.invariant).0

pub waiting-init : goal.waiting-init
waiting-init c = one_waits c.new-waiting.result.items c.push.new.self.items c.args.pieces c.new-waiting.ensures.items c.in_ok-push.ensures.items

pub returns-in_err-push : goal.returns-in_err-push
returns-in_err-push c = IfOk-from_err c.from_residual.result _ c.from_residual.ensures.0

pub returns-in_err-are_fields : goal.returns-in_err-are_fields
returns-in_err-are_fields c = IfOk-from_err c.from_residual-in_err-are_fields.result _ c.from_residual-in_err-are_fields.ensures.0
