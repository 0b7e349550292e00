-- The machine of expressions under a limit of heights, from a place in a list of tokens to another.
use Rattle.std.specs.Prelude.{◌≡◌, ℕ, ◌≤◌, nat_le, cond, List, [], ◌∷◌, ◌++◌, length, drop}
use Rattle.py_syntax.specs.Tree.{Expr}
use Rattle.py_syntax.specs.Kinds.{Kind}
use Rattle.py_grammar.specs.Machine.{State, Out, Next, Stuck, Left, step, class}
use Rattle.py_grammar.specs.Least.{least}

-- How a reading ends: at a token that goes on with no expression, at one after which every
-- expression is too high, or after an expression, with the token that isn't taken.
pub data Ending : Type 0 where
  Unexpected : (rest : List Kind) → Ending
  TooDeep : (rest : List Kind) → Ending
  Reads : (e : Expr) (rest : List Kind) → Ending

-- the reading of a list from a state on, under a limit of heights
abbrev pub within : ℕ → State → List Kind → Ending
within limit s [] = Unexpected []
within limit s (t ∷ ts) =
    elim (step s (class t)) as (λ (o : Out). Ending) [
      | Next n ↦ cond (nat_le (least n) limit) (within limit n ts) (TooDeep (t ∷ ts))
      | Stuck ↦ Unexpected (t ∷ ts)
      | Left e ↦ Reads e (t ∷ ts)
    ]

-- The machine, from a state and a place, ends so at another place.
pub record EndsAt (limit : ℕ) (s : State) (ts : List Kind) (at place : ℕ) (end : List Kind → Ending)
    : Type 0 where
  pub forward : at ≤ place
  pub inside : place ≤ length ts
  pub ends : within limit s (drop at ts) ≡ end (drop place ts)

-- The tokens from a place are some in front of another place, and those from there, of which this
-- holds.
abbrev pub Parted : List Kind → ℕ → ℕ → (List Kind → List Kind → Type 0) → Type 0
Parted ts at place Holds =
    (front : List Kind) × (drop at ts ≡ front ++ drop place ts) × Holds front (drop place ts)
