-- Which tokens begin a pattern, said of trees alone.
use Rattle.std.specs.Prelude.{◌≡◌, ℕ, ◌≤◌, List, [], ◌∷◌, ◌++◌}
use Rattle.py_syntax.specs.Tree.{Pattern}
use Rattle.py_syntax.specs.Kinds.{Kind}
use Rattle.py_syntax.specs.Tokens.{pattern_tokens}
use Rattle.py_syntax.specs.Normal.{NormalPattern, pattern_height}
use Rattle.py_syntax.specs.Refusals.{Begins, IsUnexpectedAfter, IsTooDeepAfter}

-- the normal pattern has these tokens
abbrev pub HasTokens : Pattern → List Kind → Type 0
HasTokens p ts = NormalPattern p × (pattern_tokens p [] ≡ ts)

-- it is no higher
abbrev pub IsWithin : ℕ → Pattern → Type 0
IsWithin limit p = pattern_height p ≤ limit

-- these tokens begin those of a pattern
abbrev pub BeginsPattern : List Kind → Type 0
BeginsPattern front = Begins HasTokens front

-- The pattern has the tokens in front, and the one after them goes on with no pattern.
abbrev pub IsPattern : ℕ → Pattern → List Kind → List Kind → Type 0
IsPattern limit p front [] = ⊥
IsPattern limit p front (t ∷ rest) =
    NormalPattern p × (pattern_tokens p [] ≡ front) × (pattern_height p ≤ limit)
    × (BeginsPattern (front ++ t ∷ []) → ⊥)

-- The tokens in front begin a pattern and are none, and they begin none with the one after them; or
-- the list ends.
abbrev pub IsUnexpected : ℕ → List Kind → List Kind → Type 0
IsUnexpected limit front rest = IsUnexpectedAfter HasTokens (IsWithin limit) front rest

-- With the token after them, the tokens in front begin only patterns that are higher than the
-- limit.
abbrev pub IsTooDeep : ℕ → List Kind → List Kind → Type 0
IsTooDeep limit front rest = IsTooDeepAfter HasTokens (IsWithin limit) front rest

-- a list of tokens is that of one pattern at most
abbrev pub OnePattern : Type 0
OnePattern =
    (p q : Pattern) → NormalPattern p → NormalPattern q
    → pattern_tokens p [] ≡ pattern_tokens q [] → p ≡ q
