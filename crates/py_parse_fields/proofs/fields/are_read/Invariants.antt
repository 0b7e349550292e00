use Rattle.std.proofs.Common.{◌≡◌, is_some}
use Rattle.py_grammar.specs.Machine.{parts}
use Rattle.py_parse_fields.specs.Order.{plain_pieces, waiting_of, each_spelled, load}
use Rattle.py_parse_fields.proofs.fields.are_read.Given as goal

abbrev pub invariant-waiting : goal.invariant-waiting
invariant-waiting l = is_some (parts (plain_pieces l.pieces)) ≡ each_spelled (waiting_of l.waiting.items)

abbrev pub decreases-waiting : goal.decreases-waiting
decreases-waiting l = load (waiting_of l.waiting.items)
