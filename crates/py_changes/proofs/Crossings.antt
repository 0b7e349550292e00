-- Where no arc goes to an unsafe line, no unsafe line was reached: a marked line is the end of an
-- arc of its activation. The outside of a body, 0, counts as safe.
use Rattle.std.proofs.Common.{◌≡◌, ℕ, zero, suc, nat_eq, ◌==◌, ℤ, pos, negsuc, Bool, true, false, List, [], ◌∷◌, ◌++◌, map, refl, sym, subst}
use Rattle.std.specs.Prelude.{if◌then◌else◌}
use Rattle.std.specs.List.{AllByRecursion}
use Rattle.std.proofs.lemmas.Bool.{eqb-true, eq-eqb}
use Rattle.py_meaning.specs.Activations.{mark, again, throw, sub, Activation, activation, Items, no_items, more, kept_line, is_kept, Arc, arc_to, arcs_so_far, arcs_of}
use Rattle.py_meaning.specs.Crossings.{activations, activations_from, activation_code, Crossing, crossing, shown_line, crossings_of, crossings}
use Rattle.py_meaning.specs.Modules.{LoadedModule, unit_of}
use Rattle.py_changes.proofs.Lists.{all-left, all-right}
use Rattle.py_changes.proofs.Reached.{ReachOnly, ActivationReachesOnly}

module _ (Safe : ℕ → ℕ → Type 0) (outside : (m : ℕ) → Safe m 0) where
  -- the lines that arcs go to are safe
  abbrev pub To : ℕ → List Arc → Type 0
  To m arcs = AllByRecursion (λ a. Safe m a.to) arcs

  -- so it is of each of these activations
  abbrev pub AllTo : List Activation → Type 0
  AllTo xs = AllByRecursion (λ a. To (activation_code a).module (arcs_of a)) xs

  mark-before : (m : ℕ) (before : Items) (l : ℕ) (b : Bool)
      → To m (if b then arcs_so_far before else (arcs_so_far before ++ arc_to before l ∷ []))
      → To m (arcs_so_far before)
  mark-before m before l true h = h
  mark-before m before l false h =
      all-left (λ a. Safe m a.to) (arcs_so_far before) (arc_to before l ∷ []) h

  mark-safe : (m : ℕ) (before : Items) (l : ℕ) (b : Bool) → (l == kept_line before) ≡ b
      → Safe m (kept_line before)
      → To m (if b then arcs_so_far before else (arcs_so_far before ++ arc_to before l ∷ []))
      → Safe m l
  mark-safe m before l true e k h = subst (λ n. Safe m n) (sym (eqb-true l (kept_line before) e)) k
  mark-safe m before l false e k h =
      (all-right (λ a. Safe m a.to) (arcs_so_far before) (arc_to before l ∷ []) h).0

  kept-safe : (m : ℕ) (items : Items) → To m (arcs_so_far items) → Safe m (kept_line items)
  unfolding arcs_so_far
  kept-safe m no_items h = outside m
  kept-safe m (more before (mark l)) h =
      mark-safe m before l (is_kept l before) refl
      (kept-safe m before (mark-before m before l (is_kept l before) h)) h
  kept-safe m (more before (again l)) h =
      (all-right (λ a. Safe m a.to) (arcs_so_far before) (arc_to before l ∷ []) h).0
  kept-safe m (more before (throw kind)) h = kept-safe m before h
  kept-safe m (more before (sub a)) h = kept-safe m before h

  ended-safe : (m : ℕ) (items : Items) (ended : Bool)
      → To m (if ended then (arcs_so_far items ++ arc_to items 0 ∷ []) else arcs_so_far items)
      → To m (arcs_so_far items)
  ended-safe m items true h =
      all-left (λ a. Safe m a.to) (arcs_so_far items) (arc_to items 0 ∷ []) h
  ended-safe m items false h = h

  mutual
    unfolding arcs_so_far arcs_of activations activations_from

    pub only-by-arcs : (m : ℕ) (items : Items) → To m (arcs_so_far items)
        → AllTo (activations items) → ReachOnly Safe m items
    only-by-arcs m no_items h k = tt
    only-by-arcs m (more before (mark l)) h k =
        let first =
        mark-before m before l (is_kept l before) h
        in (
          only-by-arcs m before first k,
          mark-safe m before l (is_kept l before) refl
              (kept-safe m before first) h,
        )
    only-by-arcs m (more before (again l)) h k = (
      only-by-arcs m before
          (all-left (λ a. Safe m a.to) (arcs_so_far before) (arc_to before l ∷ []) h) k,
      (all-right (λ a. Safe m a.to) (arcs_so_far before) (arc_to before l ∷ []) h).0,
    )
    only-by-arcs m (more before (throw kind)) h k = (only-by-arcs m before h k, tt)
    only-by-arcs m (more before (sub a)) h k = (
      only-by-arcs m before h
          (all-left (λ x. To (activation_code x).module (arcs_of x)) (activations before)
          (activations_from a) k),
      activation-by-arcs a
          (all-right (λ x. To (activation_code x).module (arcs_of x)) (activations before)
          (activations_from a) k),
    )

    activation-by-arcs : (a : Activation) → AllTo (activations_from a)
        → ActivationReachesOnly Safe a
    activation-by-arcs (activation code items ended) k =
        only-by-arcs code.module items (ended-safe code.module items ended k.0) k.1

  -- ---- by the crossings of a run, as data show them

  -- an end of a crossing of the module with a number
  abbrev pub SafeEnd : ℕ → ℤ → Type 0
  SafeEnd m (pos l) = Safe m l
  SafeEnd m (negsuc l) = Unit {0}

  -- of all crossings of the module with a number
  abbrev pub SafeEnds : ℕ → List Crossing → Type 0
  SafeEnds m cs = AllByRecursion (λ c. SafeEnd m c.to) cs

  end-safe : (m first k : ℕ) → SafeEnd m (shown_line first k) → Safe m k
  end-safe m first zero h = outside m
  end-safe m first (suc l) h = h

  ends-safe : (m first : ℕ) (arcs : List Arc) → SafeEnds m (map (crossing first) arcs) → To m arcs
  ends-safe m first [] h = tt
  ends-safe m first (a ∷ rest) h = (end-safe m first a.to h.0, ends-safe m first rest h.1)

  first-of : (m : ℕ) (b : Bool) (cs ds : List Crossing) → b ≡ true
      → SafeEnds m (if b then cs ++ ds else ds) → SafeEnds m cs
  first-of m true cs ds e h = all-left (λ c. SafeEnd m c.to) cs ds h
  first-of m false cs ds e h = absurd cc

  rest-of : (m : ℕ) (b : Bool) (cs ds : List Crossing) → SafeEnds m (if b then cs ++ ds else ds)
      → SafeEnds m ds
  rest-of m true cs ds h = all-right (λ c. SafeEnd m c.to) cs ds h
  rest-of m false cs ds h = h

  pub by-crossings : (ms : List LoadedModule) (xs : List Activation)
      → ((m : ℕ) → SafeEnds m (crossings_of ms m xs)) → AllTo xs
  unfolding crossings_of
  by-crossings ms [] h = tt
  by-crossings ms (a ∷ rest) h =
      let k = (activation_code a).module in
      let first = (unit_of ms (activation_code a)).line in (
        ends-safe k first (arcs_of a)
            (first-of k (nat_eq k k) (map (crossing first) (arcs_of a)) (crossings_of ms k rest)
            (eq-eqb k k refl) (h k)),
        by-crossings ms rest (λ m. rest-of m (nat_eq k m) (map (crossing first) (arcs_of a))
            (crossings_of ms m rest) (h m)),
      )

  -- No line that the crossings of these items go to is unsafe: then none was reached in the
  -- activations in them.
  pub only-by-crossings : (ms : List LoadedModule) (items : Items)
      → ((m : ℕ) → SafeEnds m (crossings ms m items)) → To 0 (arcs_so_far items)
      → ReachOnly Safe 0 items
  only-by-crossings ms items h k = only-by-arcs 0 items k (by-crossings ms (activations items) h)
