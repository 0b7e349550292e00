-- That a run reached no line but safe ones.
use Rattle.std.specs.Prelude.{ℕ}
use Rattle.py_meaning.specs.Activations.{Item, mark, again, throw, sub, Activation, activation, Items, no_items, more}

-- `Safe` says of which modules, by their numbers, which lines are safe
module _ (Safe : ℕ → ℕ → Type 0) where
  abbrev mutual
    -- what happened in an activation of the module with this number
    pub ReachOnly : ℕ → Items → Type 0
    ReachOnly m no_items = Unit {0}
    ReachOnly m (more before i) = ReachOnly m before × ReachesOnly m i

    -- one item
    pub ReachesOnly : ℕ → Item → Type 0
    ReachesOnly m (mark l) = Safe m l
    ReachesOnly m (again l) = Safe m l
    ReachesOnly m (throw kind) = Unit {0}
    ReachesOnly m (sub a) = ActivationReachesOnly a

    -- what happened in an activation of its own module
    pub ActivationReachesOnly : Activation → Type 0
    ActivationReachesOnly (activation code items ended) = ReachOnly code.module items
