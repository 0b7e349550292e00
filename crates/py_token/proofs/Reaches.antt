-- How far a field can go.
use Rattle.std.proofs.Common.{◌≡◌, ◌≤◌, ◌<◌, ◌+◌, ℕ, zero, suc, Bool, true, false, cond, List, [], ◌∷◌, length, drop, arith}
use Rattle.py_token.specs.Fields.{may_stand, reach}

pub reach_within : (quote : ℕ) (triple : Bool) (cs : List ℕ) → reach quote triple cs ≤ length cs
unfolding reach
reach_within quote triple [] = omega arith
reach_within quote triple (c ∷ cs) = go (may_stand quote triple c cs) (reach_within quote triple cs)
  where
    go : (b : Bool) → reach quote triple cs ≤ length cs → cond b (suc (reach quote triple cs)) 0 ≤ length (c ∷ cs)
    go true h = omega arith
    go false h = omega arith

-- the end of the reach, as the number of characters that are left there, is known where it is not after the place
unfoldable pub Known : ℕ → Bool → ℕ → List ℕ → Type 0
Known quote triple limit cs = limit ≤ length cs → reach quote triple cs + limit ≡ length cs

pub known_tail : (quote : ℕ) (triple : Bool) (limit c : ℕ) (cs : List ℕ) → Known quote triple limit (c ∷ cs) → Known quote triple limit cs
unfolding reach Known
known_tail quote triple limit c cs h le = go (may_stand quote triple c cs) (h (omega arith))
  where
    go : (b : Bool) → cond b (suc (reach quote triple cs)) 0 + limit ≡ length (c ∷ cs) → reach quote triple cs + limit ≡ length cs
    go true e = omega (arith, e)
    go false e = absurd (omega (arith, e, le))

pub known_drop : (quote : ℕ) (triple : Bool) (limit n : ℕ) (cs : List ℕ) → Known quote triple limit cs → Known quote triple limit (drop n cs)
known_drop quote triple limit zero cs h = h
known_drop quote triple limit (suc n) [] h = h
known_drop quote triple limit (suc n) (c ∷ cs) h = known_drop quote triple limit n cs (known_tail quote triple limit c cs h)

pub nothing_known : (quote : ℕ) (triple : Bool) (limit : ℕ) (cs : List ℕ) → length cs < limit → Known quote triple limit cs
unfolding Known
nothing_known quote triple limit cs low le = absurd (omega (arith, low, le))

pub now_known : (quote : ℕ) (triple : Bool) (limit : ℕ) (cs : List ℕ) → reach quote triple cs + limit ≡ length cs → Known quote triple limit cs
unfolding Known
now_known quote triple limit cs is le = is

pub is_known : (quote : ℕ) (triple : Bool) (limit : ℕ) (cs : List ℕ) → Known quote triple limit cs → limit ≤ length cs → reach quote triple cs + limit ≡ length cs
unfolding Known
is_known quote triple limit cs h le = h le
