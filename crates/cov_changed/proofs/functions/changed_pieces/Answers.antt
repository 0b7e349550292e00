use Rattle.cov_pieces.specs.Views.{plain_function, pieces_of}
use Rattle.cov_changed.specs.Views.{lines_of}
use Rattle.cov_changed.proofs.Together.{changes_function}
use Rattle.cov_changed.proofs.functions.changed_pieces.Goals as goal

pub returns : goal.returns
returns c =
    changes_function (plain_function c.args.f.now) (plain_function c.args.g.now) (pieces_of c.args.before.now) (pieces_of c.args.after.now) _ _ _ _ (lines_of c.args.found.now) _ _
    c.requires.of_old c.requires.of_new c.in_ok-names.ensures c.in_ok-others.ensures c.in_ok-same.ensures c.in_ok-compare_bodies.ensures c.body_fits-fits.ensures c.in_ok-add_def.ensures
