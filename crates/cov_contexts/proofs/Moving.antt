-- What a box holds moves, and so does the box. A box is made of a place in the table of types and a
-- value of the type there.
use Rattle.std.proofs.Common.{◌≡◌, Result, Ok, Err, IfOk, OnErr, refl, sym, subst}

module _ {I B V E : Type 0} (C : I → Type 0) (make : (i : I) → C i → B)
    (Moves : (i : I) → C i → V → C i → Type 0) where
  step_of : (r : Result V E) (i : I) (x new : C i) → IfOk r (λ a. Moves i x a new) →
      IfOk r (λ a. (w : C i) × (make i new ≡ make i w) × Moves i x a w)
  step_of (Ok a) i x new h = (new, refl, h)
  step_of (Err e) i x new h = tt

  pub moved_box : (r : Result V E) (p q : (i : I) × C i) → p ≡ q → (new : C p.0) →
      IfOk r (λ a. Moves p.0 p.1 a new) →
      IfOk r (λ a. (w : C q.0) × (make p.0 new ≡ make q.0 w) × Moves q.0 q.1 a w)
  moved_box r p q same =
      let P : (i : I) × C i → Type 0 = λ z. (new : C z.0) → IfOk r (λ a. Moves z.0 z.1 a new) →
      IfOk r (λ a. (w : C q.0) × (make z.0 new ≡ make q.0 w) × Moves q.0 q.1 a w) in
      subst P (sym same) (step_of r q.0 q.1)

pub kept_box : {I B V E : Type 0} (C : I → Type 0) (make : (i : I) → C i → B) (r : Result V E)
    (p q : (i : I) × C i) → p ≡ q → (new : C p.0) → OnErr r (new ≡ p.1) →
    OnErr r (make p.0 new ≡ make q.0 q.1)
kept_box C make (Ok a) p q same new h = tt
kept_box {I} C make (Err e) p q same new h =
    let P : (i : I) × C i → Type 0 =
    λ z. (new : C z.0) → new ≡ z.1 → make z.0 new ≡ make q.0 q.1 in
    let here : (new : C q.0) → new ≡ q.1 → make q.0 new ≡ make q.0 q.1 = λ new is.
    let F : C q.0 → Type 0 = λ w. make q.0 w ≡ make q.0 q.1 in subst F (sym is) refl in
    subst P (sym same) here new h
