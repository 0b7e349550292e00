use Rattle.std.proofs.Common.{drop, is_some}
use Rattle.py_grammar.specs.Machine.{parts}
use Rattle.py_parse_fields.specs.Order.{plain_pieces, waiting_of, weight, PiecesSoFar}
use Rattle.py_parse_fields.proofs.fields.are_fields.Given as goal

abbrev pub invariant-pieces : goal.invariant-pieces
invariant-pieces l = PiecesSoFar (is_some (parts (plain_pieces l.pieces))) (weight (plain_pieces l.pieces)) (waiting_of l.fn.waiting.items) (waiting_of l.waiting.items) (plain_pieces (drop l.piece-index l.pieces))
