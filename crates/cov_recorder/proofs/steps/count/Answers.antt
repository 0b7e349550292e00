use Rattle.std.proofs.Common.{length, refl, sym, ◌∙◌, w32}
use Rattle.std.proofs.lemmas.Bool.{ltb-true}
use Rattle.std.proofs.lemmas.Int.{to_z-of_z}
use Rattle.std.proofs.lemmas.Option.{slice_get_read}
use Rattle.cov_predict.proofs.Sets.{same_arc}
use Rattle.cov_recorder.proofs.Stepping.{read_back, first_of, counted_in, counted_nowhere}
use Rattle.cov_recorder.proofs.steps.count.Goals as goal

pub returns-in-Some-get : goal.returns-in-Some-get
returns-in-Some-get c =
    let sets = c.args.sets.now in
    let frame = c.args.frame.now in
    let seat = c.in-Some.seat in
    let look = c.in-Some-get.ensures.lookup in
    let at = slice_get_read sets (length sets) frame.code.module c.in-Some-get.set.now refl (ltb-true _ _ (sym look.0)) look.1 in
    let first = first_of frame.seat seat c.in-Some.is c.requires.first in
    let fits = read_back c.args.arcs seat.first frame.line c.args.line first c.requires.from c.requires.to c.step-from.result c.step-from.ensures in
    let is = same_arc _ _ _ _ (to_z-of_z w32 c.step-from.result.0 fits.0) (to_z-of_z w32 c.step-from.result.1 fits.1) in
    counted_in sets c.args.arcs frame frame.seat seat c.args.line c.args.rows.now c.count_arc.new.rows c.in-Some-get.set.now _ c.in-Some.is at (is ∙ c.step-from.ensures) c.count_arc.ensures

pub returns-in_default-get : goal.returns-in_default-get
returns-in_default-get c =
    counted_nowhere c.args.sets.now c.args.arcs c.args.frame.now c.args.frame.now.seat c.in-Some.seat c.args.line c.args.rows.now c.in-Some.is c.in_default-get.ensures.lookup.3
