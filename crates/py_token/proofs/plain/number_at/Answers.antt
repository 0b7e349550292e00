use Rattle.std.proofs.Common.{arith, ap, ◌∙◌}
use Rattle.std.proofs.lemmas.Result.{err_from_is_err_and}
use Rattle.py_token.specs.Numbers.{in_number}
use Rattle.py_token.specs.View.{view_kind}
use Rattle.py_token.specs.ViewMatch.{view_match}
use Rattle.py_token.proofs.Answering.{passes_error}
use Rattle.py_token.proofs.PlainTokens.{front_len, number_found, with_kind}
use Rattle.py_token.proofs.plain.number_at.Goals as goal

pub overflow_add-len : goal.overflow_add-len
overflow_add-len c = let h = front_len in_number c.args.chars.now c.after.result.now c.number_len-len.result c.requires c.after.ensures c.number_len-len.ensures in omega (arith, h)

pub front-requires : goal.front-requires
front-requires c = front_len in_number c.args.chars.now c.after.result.now c.number_len-len.result c.requires c.after.ensures c.number_len-len.ensures

pub returns-in_err-kind : goal.returns-in_err-kind
returns-in_err-kind c = let p = err_from_is_err_and c.from_residual.result c.from_residual.ensures.1 in rw (p.1, p.2) (passes_error view_kind view_match _ _ _ (λ fails. number_found c.args.line c.number_len-len.result c.args.chars.now c.after.result.now c.front.result.now c.requires c.after.ensures c.number_len-len.ensures c.front.ensures ∙ ap (with_kind c.args.line c.number_len-len.result) fails) c.in_err-kind.ensures)

pub returns : goal.returns
returns c = number_found c.args.line c.number_len-len.result c.args.chars.now c.after.result.now c.front.result.now c.requires c.after.ensures c.number_len-len.ensures c.front.ensures ∙ ap (with_kind c.args.line c.number_len-len.result) c.in_ok-kind.ensures
