use Rattle.std.proofs.lemmas.Grind.{common_steps}
use Rattle.std.proofs.Common.{arith}
use Rattle.py_syntax.specs.View.{plain_expr}
use Rattle.py_grammar.proofs.View.Places.{kinds_of_all}
use Rattle.py_parse_expr.proofs.Exact.ExprWhole.{answer_other, answer_more, answer_whole, answer_refused, next_inside}
use Rattle.py_parse_expr.proofs.exprs.parse_expr.Goals as goal

pub returns-in_err-read : goal.returns-in_err-read
returns-in_err-read c = answer_refused (kinds_of_all c.args.tokens.now) c.in_err-read.field-0.0 c.from_residual.result c.from_residual.ensures.1 c.in_err-read.ensures.follows

pub bounds-tokens-next : goal.bounds-tokens-next
bounds-tokens-next c = next_inside c.args.tokens.now c.in_ok-read.read.next (plain_expr c.in_ok-read.read.expr.value) c.in_ok-read.ensures.follows

pub returns-then-not-is_end : goal.returns-then-not-is_end
returns-then-not-is_end c = answer_other c.args.tokens.now c.in_ok-read.read c.index-tokens-next.result c.in_ok-read.ensures.follows c.if-not-is_end.ensures

pub returns-then-next-tokens : goal.returns-then-next-tokens
returns-then-next-tokens c = answer_more c.args.tokens.now c.in_ok-read.read c.index-tokens-next.result c.in_ok-read.ensures.follows c.if-not-is_end.ensures c.if-next-tokens.true

pub returns : goal.returns
returns c = answer_whole c.args.tokens.now c.in_ok-read.read c.index-tokens-next.result c.in_ok-read.ensures.follows c.into_inner.result c.into_inner.ensures c.if-not-is_end.ensures c.if-next-tokens.false

pub offset_bounds-tokens-next : goal.offset_bounds-tokens-next
offset_bounds-tokens-next c = grind (arith, common_steps)

pub overflow_add-next : goal.overflow_add-next
overflow_add-next c = grind (arith, common_steps)
