use Rattle.std.proofs.Common.{sym, subst, ◌∙◌, List, to_z, of_z, w32}
use Rattle.std.proofs.lemmas.Int.{to_z-of_z}
use Rattle.std.specs.List.{Contains}
use Rattle.std.specs.List.Sorted.{IsStrictlySortedBy}
use Rattle.py_syntax.specs.Prediction.{Arc, by_ends}
use Rattle.cov_predict.proofs.Sets.{not_found, by_ends-total, same_arc}
use Rattle.cov_predict.proofs.arcs.ArcSet.place.Goals as goal

pub returns-in-Err-clause-none : goal.returns-in-Err-clause-none
returns-in-Err-clause-none c = λ has.
    let arc : Arc = (to_z w32 (of_z w32 c.args.from), to_z w32 (of_z w32 c.args.to)) in
    let is = same_arc _ _ _ _ (to_z-of_z w32 c.args.from c.ranges.from) (to_z-of_z w32 c.args.to c.ranges.to) in
    let items = c.deref.result.now in
    not_found by_ends by_ends-total items arc c.in-Err.field-0
    (subst (IsStrictlySortedBy by_ends) (sym c.deref.ensures.value) c.self.invariant.rises)
    c.in-Err.ensures.position
    (subst (Contains items) (sym is) (subst (λ (xs : List Arc). Contains xs (c.args.from, c.args.to)) (sym (c.deref.ensures.value ∙ c.self.view_is)) has))
