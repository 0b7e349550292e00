use Rattle.std.proofs.Common.{get_or, ap, sym, subst, ◌∙◌, arith}
use Rattle.std.proofs.lemmas.List.{get_or_default}
use Rattle.cov_exclude.specs.Touched.{touches, IsRising}
use Rattle.cov_exclude.proofs.Touching.{by-the-next, all-below}
use Rattle.cov_exclude.proofs.matched.Matched.touches.Goals as goal

pub returns-then-at-lines : goal.returns-then-at-lines
returns-then-at-lines c =
    by-the-next c.as_slice-lines.result.now c.args.first c.place_of-at.result c.place_of-at.ensures (subst IsRising (sym c.as_slice-lines.ensures.value) c.self.invariant) (get_or c.as_slice-lines.result.now c.place_of-at.result 0) c.args.last c.if-at-lines.true (get_or_default c.as_slice-lines.result.now c.place_of-at.result 0 (get_or c.as_slice-lines.result.now c.place_of-at.result 0) c.if-at-lines.true)
    ∙ ap (λ ls. touches ls c.args.first c.args.last) (c.as_slice-lines.ensures.value ∙ c.self.view_is)

pub returns : goal.returns
returns c =
    all-below c.as_slice-lines.result.now c.args.first c.place_of-at.result c.place_of-at.ensures c.args.last (omega (arith, c.if-at-lines.false))
    ∙ ap (λ ls. touches ls c.args.first c.args.last) (c.as_slice-lines.ensures.value ∙ c.self.view_is)
