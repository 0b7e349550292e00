use Rattle.cov_pieces.specs.Pieces.{picked, binding_of}
use Rattle.cov_pieces.specs.Views.{pieces_of}
use Rattle.cov_changed.proofs.Local.{are_local}
use Rattle.cov_changed.proofs.locals.local_names.Goals as goal

pub returns : goal.returns
returns c = are_local c.args.params.now (picked binding_of (pieces_of c.args.pieces.now)) _ _ _ _ c.new-names.ensures c.in_ok-declared.ensures c.in_ok-add_params.ensures c.in_ok-add_assigned.ensures
