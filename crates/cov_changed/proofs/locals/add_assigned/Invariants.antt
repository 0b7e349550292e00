use Rattle.std.proofs.Common.{◌≡◌, drop}
use Rattle.py_syntax.specs.Names.{add_names, assigned_in}
use Rattle.cov_pieces.specs.Pieces.{picked, binding_of}
use Rattle.cov_pieces.specs.Views.{pieces_of}
use Rattle.cov_changed.specs.Local.{undeclared}
use Rattle.cov_changed.proofs.locals.add_assigned.Given as goal

abbrev pub invariant-loop-piece : goal.invariant-loop-piece
invariant-loop-piece l = add_names l.names (undeclared l.declared (assigned_in (picked binding_of (pieces_of (drop l.piece-index l.pieces))))) ≡ add_names l.initial.names (undeclared l.declared (assigned_in (picked binding_of (pieces_of l.pieces))))
