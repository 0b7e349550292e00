use Rattle.std.proofs.Common.{◌+◌, ◌*◌, drop}
use Rattle.py_grammar.specs.Machine.{any, start, parts, field_expr}
use Rattle.py_parse_fields.specs.Order.{plain_pieces}
use Rattle.py_parse_fields.proofs.Runs.{row}
use Rattle.py_parse_expr.proofs.View.ExprFields.{FieldSoFar, PartsSoFar}
use Rattle.py_parse_expr.proofs.expr_fields.+turn.Given as goal

abbrev pub decreases-turn : goal.decreases-turn
decreases-turn l = 3 * l.stack.now.limit + 2

abbrev pub decreases-fields : goal.decreases-fields
decreases-fields l = 3 * l.limit + 1

abbrev pub decreases-field : goal.decreases-field
decreases-field l = 3 * l.limit + 3

abbrev pub invariant-field-tokens : goal.invariant-field-tokens
invariant-field-tokens l = FieldSoFar l.fn.limit (field_expr (start any) (row l.tokens)) l.progress l.stack (row (drop l.token-index l.tokens))

abbrev pub invariant-fields-pieces : goal.invariant-fields-pieces
invariant-fields-pieces l = PartsSoFar (parts (plain_pieces l.pieces)) l.parts.items l.height (plain_pieces (drop l.piece-index l.pieces))
