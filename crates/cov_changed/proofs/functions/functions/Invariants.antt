use Rattle.std.proofs.Common.{◌≡◌, ◌++◌, drop, map}
use Rattle.cov_pieces.specs.Pieces.{picked, function_of}
use Rattle.cov_pieces.specs.Views.{plain_function, pieces_of}
use Rattle.cov_changed.proofs.functions.functions.Given as goal

abbrev pub invariant-loop-piece : goal.invariant-loop-piece
invariant-loop-piece l = map plain_function l.found.items ++ picked function_of (pieces_of (drop l.piece-index l.pieces)) ≡ picked function_of (pieces_of l.pieces)
