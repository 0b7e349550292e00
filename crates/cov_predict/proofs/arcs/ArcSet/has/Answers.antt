use Rattle.std.proofs.Common.{refl, ◌∙◌, ap, Some, w32}
use Rattle.std.proofs.lemmas.Int.{to_z-of_z}
use Rattle.std.proofs.lemmas.Option.{get_or_from_slice_get, slice_get_within}
use Rattle.cov_predict.proofs.Sets.{same_arc}
use Rattle.cov_predict.proofs.arcs.ArcSet.has.Goals as goal

pub returns-in-Some : goal.returns-in-Some
returns-in-Some c =
    let is = same_arc _ _ _ _ (to_z-of_z w32 c.args.from c.ranges.from) (to_z-of_z w32 c.args.to c.ranges.to) in
    let found = c.in-Some.ensures.some ∙ ap (λ a. Some a) is in
    (λ yes. (c.in-Some.field-0, slice_get_within c.args.self.now c.in-Some.field-0 (c.args.from, c.args.to) found, get_or_from_slice_get c.args.self.now c.in-Some.field-0 (c.args.from, c.args.to) (c.args.from, c.args.to) found), λ has. refl)
