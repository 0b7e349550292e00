-- Which expression a whole list of tokens spells, and where a list is refused, said of all trees.
use Rattle.std.specs.Prelude.{◌≡◌, ℕ, ◌≤◌, List, [], ◌∷◌, length, take}
use Rattle.py_syntax.specs.Tree.{Expr, Parts}
use Rattle.py_syntax.specs.Kinds.{Kind, End, Pieces}
use Rattle.py_syntax.specs.Tokens.{tokens, pieces}
use Rattle.py_syntax.specs.Normal.{Normal, NormalParts, height}
use Rattle.py_syntax.specs.Refusals as whole
use Rattle.py_syntax.specs.Refusals.{Begins, BeginsWithin}

-- the whole list is the tokens of this tree, and the end
abbrev pub Spells : Expr → List Kind → Type 0
Spells e ts = Normal e × (ts ≡ tokens e (End ∷ []))

-- it is no higher
abbrev pub IsWithin : ℕ → Expr → Type 0
IsWithin limit e = height e ≤ limit

-- a prefix that begins some tree
abbrev pub IsViable : List Kind → Type 0
IsViable front = Begins Spells front

-- a prefix that begins some tree of at most that height
abbrev pub IsViableWithin : ℕ → List Kind → Type 0
IsViableWithin limit front = BeginsWithin Spells (IsWithin limit) front

-- no tree at all begins with one token more, or the list ends too early
abbrev pub IsUnexpected : ℕ → List Kind → ℕ → Type 0
IsUnexpected limit ts place =
    whole.IsUnexpected Spells (IsWithin limit) (λ e. Spells e ts) (λ n. take n ts) (length ts) place

-- only trees that are too high begin with one token more
abbrev pub IsTooDeep : ℕ → List Kind → ℕ → Type 0
IsTooDeep limit ts place =
    whole.IsTooDeep Spells (IsWithin limit) (λ e. Spells e ts) (λ n. take n ts) (length ts) place

-- a list spells one expression at most
abbrev pub OneTree : Type 0
OneTree = (e f : Expr) (ts : List Kind) → Spells e ts → Spells f ts → e ≡ f

-- the tokens of each field of an f-string are those of a tree (Language Reference, 2.4.3)
abbrev pub AreSpelled : Pieces → Type 0
AreSpelled ps = (qs : Parts) × NormalParts qs × (pieces qs ≡ ps)
