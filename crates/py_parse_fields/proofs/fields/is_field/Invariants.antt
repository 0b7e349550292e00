use Rattle.std.proofs.Common.{◌+◌, drop, is_some}
use Rattle.py_grammar.specs.Machine.{any, start, field_expr}
use Rattle.py_parse_fields.specs.Reader.{view_reader}
use Rattle.py_parse_fields.specs.Order.{waiting_of, field_weight, FieldSoFar}
use Rattle.py_parse_fields.proofs.Runs.{row}
use Rattle.py_parse_fields.proofs.fields.is_field.Given as goal

abbrev pub invariant-tokens : goal.invariant-tokens
invariant-tokens l = FieldSoFar (is_some (field_expr (start any) (row l.tokens))) (field_weight (row l.tokens) + 1) (waiting_of l.fn.waiting.items) (waiting_of l.waiting.items) (view_reader l.reader) (row (drop l.token-index l.tokens))
