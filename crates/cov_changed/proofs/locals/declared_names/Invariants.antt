use Rattle.std.proofs.Common.{◌≡◌, drop}
use Rattle.py_syntax.specs.Names.{add_names, distinct, declared_in}
use Rattle.cov_pieces.specs.Pieces.{picked, binding_of}
use Rattle.cov_pieces.specs.Views.{pieces_of}
use Rattle.cov_changed.proofs.locals.declared_names.Given as goal

abbrev pub invariant-loop-piece : goal.invariant-loop-piece
invariant-loop-piece l = add_names l.names (declared_in (picked binding_of (pieces_of (drop l.piece-index l.pieces)))) ≡ distinct (declared_in (picked binding_of (pieces_of l.pieces)))
