-- Elements of lists that are made of others.
use Rattle.std.proofs.Common.{◌≡◌, inl, inr, Bool, true, false, cond, List, [], ◌∷◌, map, filter, Contains, refl, ap, sym, subst, ◌∙◌, arith}
use Rattle.std.specs.Prelude.{◌⊎◌}
use Rattle.std.specs.List.{AllByRecursion}
use Rattle.std.proofs.lemmas.List.Elements.{Contains-append_left, Contains-append_right, Contains-append_cases, Contains-push, Contains-push_cases}
use Rattle.py_syntax.specs.Prediction.{Arc}
use Rattle.cov_measure_laws.specs.Places.{Step, mine, to_line, on_line, shown_arcs}
use Rattle.std.specs.Prelude.{nat_eq}
use Rattle.std.proofs.lemmas.Bool.{eq-eqb}

module _ {X : Type 0} where
  pub none_in : (x : X) → Contains [] x → ⊥
  none_in x h = omega (arith, h.1)

  pub first_in : (x : X) (xs : List X) → Contains (x ∷ xs) x
  first_in x xs = Contains-append_left (x ∷ []) xs x (Contains-push [] x)

  pub later_in : (y x : X) (xs : List X) → Contains xs x → Contains (y ∷ xs) x
  later_in y x xs h = Contains-append_right (y ∷ []) xs x h

  pub cases_in : (y x : X) (xs : List X) → Contains (y ∷ xs) x → (y ≡ x) ⊎ Contains xs x
  cases_in y x xs h = elim (Contains-append_cases (y ∷ []) xs x h) [
    | inl one ↦ elim (Contains-push_cases [] y x one) [ inl never ↦ absurd (none_in x never) | inr e ↦ inl e ]
    | inr later ↦ inr later
  ]

  pub all_at : (P : X → Type 0) (xs : List X) → AllByRecursion P xs → (x : X) → Contains xs x → P x
  all_at P [] h x at = absurd (none_in x at)
  all_at P (y ∷ ys) h x at = elim (cases_in y x ys at) [ inl e ↦ subst P e h.0 | inr later ↦ all_at P ys h.1 x later ]

  pub each_of : (P : X → Type 0) (xs : List X) → ((x : X) → Contains xs x → P x) → AllByRecursion P xs
  each_of P [] h = tt
  each_of P (y ∷ ys) h = (h y (first_in y ys), each_of P ys (λ x at. h x (later_in y x ys at)))

module _ {X Y : Type 0} (f : X → Y) where
  pub in_map : (xs : List X) (x : X) → Contains xs x → Contains (map f xs) (f x)
  in_map [] x h = absurd (none_in x h)
  in_map (y ∷ ys) x h = elim (cases_in y x ys h) [
    | inl e ↦ subst (λ z. Contains (map f (y ∷ ys)) (f z)) e (first_in (f y) (map f ys))
    | inr later ↦ later_in (f y) (f x) (map f ys) (in_map ys x later)
  ]

  pub from_map : (xs : List X) (y : Y) → Contains (map f xs) y → (x : X) × Contains xs x × (f x ≡ y)
  from_map [] y h = absurd (none_in y h)
  from_map (x ∷ xs) y h = elim (cases_in (f x) y (map f xs) h) [
    | inl e ↦ (x, first_in x xs, e)
    | inr later ↦ let at = from_map xs y later in (at.0, later_in x at.0 xs at.1, at.2)
  ]

module _ {X : Type 0} (p : X → Bool) where
  kept_first : (b : Bool) (x : X) (rest : List X) → b ≡ true → Contains (cond b (x ∷ rest) rest) x
  kept_first true x rest e = first_in x rest
  kept_first false x rest e = cc

  kept_later : (b : Bool) (y x : X) (rest : List X) → Contains rest x → Contains (cond b (y ∷ rest) rest) x
  kept_later true y x rest h = later_in y x rest h
  kept_later false y x rest h = h

  pub in_filter : (xs : List X) (x : X) → Contains xs x → p x ≡ true → Contains (filter p xs) x
  in_filter [] x h e = absurd (none_in x h)
  in_filter (y ∷ ys) x h e = elim (cases_in y x ys h) [
    | inl same ↦ subst (λ z. Contains (cond (p y) (y ∷ filter p ys) (filter p ys)) z) same (kept_first (p y) y (filter p ys) (ap p same ∙ e))
    | inr later ↦ kept_later (p y) y x (filter p ys) (in_filter ys x later e)
  ]

  of_cond : (b : Bool) (y x : X) (rest : List X) → Contains (cond b (y ∷ rest) rest) x → ((b ≡ true) × (y ≡ x)) ⊎ Contains rest x
  of_cond true y x rest h = elim (cases_in y x rest h) [ inl e ↦ inl (refl, e) | inr later ↦ inr later ]
  of_cond false y x rest h = inr h

  pub from_filter : (xs : List X) (x : X) → Contains (filter p xs) x → Contains xs x × (p x ≡ true)
  from_filter [] x h = absurd (none_in x h)
  from_filter (y ∷ ys) x h = elim (of_cond (p y) y x (filter p ys) h) [
    | inl first ↦ (subst (Contains (y ∷ ys)) first.1 (first_in y ys), ap p (sym first.1) ∙ first.0)
    | inr later ↦ let at = from_filter ys x later in (later_in y x ys at.0, at.1)
  ]

-- what data of lines show of fewer arcs is shown of more
pub shown_more : (kind : Bool) (xs ys : List Arc) → ((a : Arc) → Contains xs a → Contains ys a) → (a : Arc) → Contains (shown_arcs kind xs) a → Contains (shown_arcs kind ys) a
shown_more true xs ys h a at = h a at
shown_more false xs ys h a at =
    let x = from_map on_line (filter to_line xs) a at in
    let was = from_filter to_line xs x.0 x.1 in
    subst (Contains (map on_line (filter to_line ys))) x.2 (in_map on_line (filter to_line ys) x.0 (in_filter to_line ys x.0 (h x.0 was.0) was.1))

-- a step is among those of its module
pub in_mine : (steps : List Step) (s : Step) → Contains steps s → Contains (mine s.0 steps) s.1
in_mine steps s h = in_map (λ (t : Step). t.1) (filter (λ t. nat_eq t.0 s.0) steps) s (in_filter (λ t. nat_eq t.0 s.0) steps s h (eq-eqb s.0 s.0 refl))
