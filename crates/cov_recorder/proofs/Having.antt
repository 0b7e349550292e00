-- Whether a set has an arc.
use Rattle.std.proofs.Common.{◌≡◌, ℕ, zero, suc, Bool, true, false, List, [], ◌∷◌, Some, refl, ap, sym, ◌∙◌}
use Rattle.std.specs.declared.cmp.Ordering.TheVariants.{Less, Equal, Greater}
use Rattle.std.specs.Prelude.{slice_get, ◌||◌}
use Rattle.std.specs.Ordering.{is_eq}
use Rattle.std.specs.List.{Contains}
use Rattle.std.proofs.lemmas.Cmp.{tied_itself}
use Rattle.std.proofs.lemmas.Option.{get_or_from_slice_get, slice_get_within}
use Rattle.py_syntax.specs.Prediction.{Arc, by_ends}
use Rattle.cov_predict.proofs.Sets.{by_ends-total, by_ends-IsAntisymmetric}
use Rattle.cov_recorder.specs.Recording.{has_arc}

found : (set : List Arc) (a : Arc) → has_arc set a ≡ true → (k : ℕ) × (slice_get set k ≡ Some a)
found [] a h = cc
found (x ∷ set) a h =
    elim (by_ends a x) as (λ r. by_ends a x ≡ r → (is_eq r || has_arc set a) ≡ true → (k : ℕ) × (slice_get (x ∷ set) k ≡ Some a)) [
      | Less ↦ λ t e. let rest = found set a e in (suc rest.0, rest.1)
      | Equal ↦ λ t e. (zero, ap Some (sym (by_ends-IsAntisymmetric a x t)))
      | Greater ↦ λ t e. let rest = found set a e in (suc rest.0, rest.1)
    ] refl h

lacks_at : (b : Bool) → (b ≡ true → ⊥) → b ≡ false
lacks_at true h = absurd (h refl)
lacks_at false h = refl

pub lacks : (set : List Arc) (a : Arc) → (Contains set a → ⊥) → has_arc set a ≡ false
lacks set a h = lacks_at (has_arc set a) (λ e.
    let at = found set a e in
    h (at.0, slice_get_within set at.0 a at.1, get_or_from_slice_get set at.0 a a at.1))

or_true : (b : Bool) → (b || true) ≡ true
or_true true = refl
or_true false = refl

pub has : (set : List Arc) (k : ℕ) (a : Arc) → slice_get set k ≡ Some a → has_arc set a ≡ true
has [] k a e = cc
has (x ∷ set) zero a e =
    let same : x ≡ a = cc in
    ap (λ y. is_eq (by_ends a y) || has_arc set a) same ∙ ap (λ r. is_eq r || has_arc set a) (tied_itself by_ends-total a)
has (x ∷ set) (suc k) a e = ap (λ b. is_eq (by_ends a x) || b) (has set k a e) ∙ or_true (is_eq (by_ends a x))
