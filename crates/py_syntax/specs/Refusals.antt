-- Where a list of tokens is refused, said of all trees, whatever the trees and the tokens are.
--
-- `Spells t ts` is that the tree `t` has exactly the tokens `ts`, and `Within t` that it is within
-- the limits.
use Rattle.std.specs.Prelude.{◌≡◌, ℕ, ◌+◌, ◌≤◌, ◌<◌, List, [], ◌∷◌, ◌++◌}

-- these tokens begin those of a tree
abbrev pub Begins : {Tree Tok : Type 0} → (Tree → List Tok → Type 0) → List Tok → Type 0
Begins {Tree = Tree} {Tok = Tok} Spells front =
    (t : Tree) × (more : List Tok) × Spells t (front ++ more)

-- and those of a tree within the limits
abbrev pub BeginsWithin : {Tree Tok : Type 0} → (Tree → List Tok → Type 0) → (Tree → Type 0)
    → List Tok → Type 0
BeginsWithin {Tree = Tree} {Tok = Tok} Spells Within front =
    (t : Tree) × (more : List Tok) × Spells t (front ++ more) × Within t

-- A refusal of a whole list: it stands after the longest front that begins a tree within the
-- limits.
pub record StopsAt {Tree Tok : Type 0} (Spells : Tree → List Tok → Type 0)
    (Within IsWhole : Tree → Type 0) (front : ℕ → List Tok) (size place : ℕ) : Type 0 where
  pub inside : place ≤ size
  pub viable : BeginsWithin Spells Within (front place)
  pub longest : place < size → BeginsWithin Spells Within (front (place + 1)) → ⊥
  pub no_tree : place ≡ size → (t : Tree) → IsWhole t → ⊥

-- no tree at all begins with one token more, or the list ends too early
abbrev pub IsUnexpected : {Tree Tok : Type 0} → (Tree → List Tok → Type 0) → (Tree → Type 0)
    → (Tree → Type 0) → (ℕ → List Tok) → ℕ → ℕ → Type 0
IsUnexpected Spells Within IsWhole front size place =
    StopsAt Spells Within IsWhole front size place
    × (place < size → Begins Spells (front (place + 1)) → ⊥)

-- only trees that are past a limit begin with one token more
abbrev pub IsTooDeep : {Tree Tok : Type 0} → (Tree → List Tok → Type 0) → (Tree → Type 0)
    → (Tree → Type 0) → (ℕ → List Tok) → ℕ → ℕ → Type 0
IsTooDeep Spells Within IsWhole front size place =
    StopsAt Spells Within IsWhole front size place × (place < size)
    × Begins Spells (front (place + 1))

-- A refusal of the beginning of a list: the tokens in front begin a tree and are none, and they
-- begin none with the one after them; or the list ends.
abbrev pub IsUnexpectedAfter : {Tree Tok : Type 0} → (Tree → List Tok → Type 0) → (Tree → Type 0)
    → List Tok → List Tok → Type 0
IsUnexpectedAfter Spells Within front [] = BeginsWithin Spells Within front
IsUnexpectedAfter {Tree = Tree} Spells Within front (t ∷ rest) =
    BeginsWithin Spells Within front × ((x : Tree) → Spells x front → ⊥)
    × (Begins Spells (front ++ t ∷ []) → ⊥)

-- with the token after them, the tokens in front begin only trees that are past a limit
abbrev pub IsTooDeepAfter : {Tree Tok : Type 0} → (Tree → List Tok → Type 0) → (Tree → Type 0)
    → List Tok → List Tok → Type 0
IsTooDeepAfter Spells Within front [] = ⊥
IsTooDeepAfter Spells Within front (t ∷ rest) =
    BeginsWithin Spells Within front × Begins Spells (front ++ t ∷ [])
    × (BeginsWithin Spells Within (front ++ t ∷ []) → ⊥)
