use Rattle.std.proofs.Common.{refl, inl, inr, ap, sym, ◌∙◌, subst, w32, Some}
use Rattle.std.specs.List.{Contains}
use Rattle.std.proofs.lemmas.Int.{to_z-of_z}
use Rattle.cov_predict.proofs.Sets.{same_arc}
use Rattle.cov_recorder.proofs.Having.{lacks}
use Rattle.cov_recorder.proofs.steps.count_arc.Goals as goal

pub returns-in_default : goal.returns-in_default
returns-in_default c =
    let is = same_arc _ _ _ _ (sym (to_z-of_z w32 c.args.from c.ranges.from)) (sym (to_z-of_z w32 c.args.to c.ranges.to)) in
    inl (lacks c.args.set.now (c.args.from, c.args.to) (λ h. c.in_default.ensures.none (subst (Contains c.args.set.now) is h)), refl)

pub returns-in-Some : goal.returns-in-Some
returns-in-Some c =
    let is = same_arc _ _ _ _ (to_z-of_z w32 c.args.from c.ranges.from) (to_z-of_z w32 c.args.to c.ranges.to) in
    inr (c.in-Some.place, c.in-Some.ensures.some ∙ ap (λ a. Some a) is, c.bump.ensures)
