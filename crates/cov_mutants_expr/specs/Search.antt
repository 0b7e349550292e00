-- A walk over the mutants of a part of a tree: how far it has come, and the part with the change
-- that it has come to.
--     Reached, past            so many mutants are still to be passed over, or one was reached
--     changed                  a part, or the mutant of it that is reached
--     Copied                   a copy with the change that is reached in it, if there is one
use Rattle.std.specs.Prelude.{◌≡◌, ℕ, zero, suc, List, [], ◌∷◌}

-- so many are to be passed over, or what was told of one that was reached
pub data Reached (X : Type 0) : Type 0 where
  left : (n : ℕ) → Reached X
  found : (x : X) → Reached X

-- how far it has come after some mutants
abbrev pub past : {X A : Type 0} → Reached X → List (X × A) → Reached X
past (found x) ms = found x
past (left n) [] = left n
past (left zero) (m ∷ ms) = found m.0
past (left (suc n)) (m ∷ ms) = past (left n) ms

-- the part that these are mutants of, or the one that is reached among them
abbrev pub changed : {X A : Type 0} → Reached X → A → List (X × A) → A
changed (found x) a ms = a
changed (left n) a [] = a
changed (left zero) a (m ∷ ms) = m.1
changed (left (suc n)) a (m ∷ ms) = changed (left n) a ms

-- from one state to another over the mutants of a part, which was copied with the change among them
pub record Copied {X A : Type 0} (mutants : A → List (X × A)) (was now : Reached X) (a copy : A)
    : Type 0 where
  pub tree : copy ≡ changed was a (mutants a)
  pub state : now ≡ past was (mutants a)
