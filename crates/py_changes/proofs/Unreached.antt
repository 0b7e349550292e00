-- Items that reach no line of some kind reach only others.
use Rattle.std.proofs.Common.{◌≡◌, ℕ, Bool, false, refl}
use Rattle.py_meaning.specs.Activations.{Item, mark, again, throw, sub, Activation, activation, Items, no_items, more}
use Rattle.py_changes.specs.Tests.{reaches, reaches_item, reaches_in}
use Rattle.py_changes.proofs.Lists.{or-false, both-false}
use Rattle.py_changes.proofs.Reached.{ReachOnly, ReachesOnly, ActivationReachesOnly}

module _ (which : ℕ → ℕ → Bool) where
  -- a line that isn't of the kind
  abbrev Off : ℕ → ℕ → Type 0
  Off m l = which m l ≡ false

  mutual
    pub reach-only : (m : ℕ) (items : Items) → reaches which m items ≡ false → ReachOnly Off m items
    reach-only m no_items h = tt
    reach-only m (more before i) h =
        let t = or-false (reaches_item which m i) (reaches which m before) h in
        (reach-only m before t.1, reaches-only m i t.0)

    reaches-only : (m : ℕ) (i : Item) → reaches_item which m i ≡ false → ReachesOnly Off m i
    reaches-only m (mark l) h = h
    reaches-only m (again l) h = h
    reaches-only m (throw kind) h = tt
    reaches-only m (sub a) h = activation-reaches-only a h

    activation-reaches-only : (a : Activation) → reaches_in which a ≡ false
        → ActivationReachesOnly Off a
    activation-reaches-only (activation code items ended) h = reach-only code.module items h

  mutual
    pub reach-none : (m : ℕ) (items : Items) → ReachOnly Off m items → reaches which m items ≡ false
    reach-none m no_items h = refl
    reach-none m (more before i) h =
        both-false (reaches_item which m i) (reaches which m before) (reaches-none m i h.1)
        (reach-none m before h.0)

    reaches-none : (m : ℕ) (i : Item) → ReachesOnly Off m i → reaches_item which m i ≡ false
    reaches-none m (mark l) h = h
    reaches-none m (again l) h = h
    reaches-none m (throw kind) h = refl
    reaches-none m (sub a) h = activation-reaches-none a h

    activation-reaches-none : (a : Activation) → ActivationReachesOnly Off a
        → reaches_in which a ≡ false
    activation-reaches-none (activation code items ended) h = reach-none code.module items h
