use Rattle.std.proofs.lemmas.Result.{err_from_is_err_and}
use Rattle.py_token.specs.View.{view_tokens, view_pieces}
use Rattle.py_token.proofs.Views.{plain-field}
use Rattle.py_token.proofs.FieldItems.{field_left, field_refused, field_pushed}
use Rattle.py_token.proofs.fstrings.push_field.Goals as goal

pub returns-in_err-field : goal.returns-in_err-field
returns-in_err-field c = let p = err_from_is_err_and c.from_residual.result c.from_residual.ensures.1 in rw (p.1, p.2) (field_refused c.args.opening.quote c.args.opening.triple c.args.opening.line c.args.line c.args.others.now c.args.held _ _ _ c.in_err-field.ensures)

pub overflow_sub-result : goal.overflow_sub-result
overflow_sub-result c = field_left c.args.opening.quote c.args.opening.triple c.args.opening.line c.args.line c.args.n c.args.others.now (view_tokens c.in_ok-field.field.tokens.items) c.in_ok-field.field.left c.requires.reached c.in_ok-field.ensures

pub returns : goal.returns
returns c = field_pushed c.args.opening.quote c.args.opening.triple c.args.opening.line c.args.line c.args.n c.args.others.now c.args.held (view_tokens c.in_ok-field.field.tokens.items) c.in_ok-field.field.left _ (view_pieces c.end_chars.new.pieces.items) (view_pieces c.push_piece.new.pieces.items) _ c.requires.reached c.in_ok-field.ensures c.in_ok-end_chars.ensures c.in_ok-push_piece.ensures (plain-field c.in_ok-field.field.tokens)
