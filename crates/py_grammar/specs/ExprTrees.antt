-- Which tokens begin an expression of the form that is asked for, said of trees alone.
use Rattle.std.specs.Prelude.{◌≡◌, ℕ, ◌≤◌, true, List, [], ◌∷◌, ◌++◌}
use Rattle.py_token.specs.declared.token.Keyword.TheVariants as word
use Rattle.py_token.specs.declared.token.Mark.TheVariants as mark
use Rattle.py_syntax.specs.Tree.{Expr}
use Rattle.py_syntax.specs.Kinds.{Kind, Word, FString, Sign}
use Rattle.py_syntax.specs.Tokens.{tokens}
use Rattle.py_syntax.specs.Normal.{LExpr, At, Normal, is_target, height}
use Rattle.py_syntax.specs.Refusals as any_tree
use Rattle.py_syntax.specs.Refusals.{Begins, IsTooDeepAfter}
use Rattle.py_grammar.specs.Refusal.{IsWithin}
use Rattle.py_grammar.specs.Machine.{Goal, any, one, target, targets}

-- what may be asked for: any `exprs`, one `expr`, or what a `for` assigns to
abbrev pub IsAsked : Goal → Type 0
IsAsked (targets f es) = ⊥
IsAsked g = Unit {0}

-- a normal tree of that form
abbrev pub IsOf : Goal → Expr → Type 0
IsOf any e = Normal e
IsOf one e = Normal e × At LExpr e
IsOf g e = Normal e × (is_target e ≡ true)

-- these are the tokens of that expression, which is of that form
abbrev pub HasTokens : Goal → Expr → List Kind → Type 0
HasTokens goal e ts = IsOf goal e × (tokens e [] ≡ ts)

-- these tokens begin those of such an expression
abbrev pub BeginsExpr : Goal → List Kind → Type 0
BeginsExpr goal front = Begins (HasTokens goal) front

-- and of one that isn't higher than the limit
abbrev pub BeginsWithin : Goal → ℕ → List Kind → Type 0
BeginsWithin goal limit front = any_tree.BeginsWithin (HasTokens goal) (IsWithin limit) front

-- they are those of such an expression
abbrev pub IsTree : Goal → List Kind → Type 0
IsTree goal front = (e : Expr) × HasTokens goal e front

-- The expression has the tokens in front, and the one after them goes on with none.
abbrev pub IsExpr : Goal → ℕ → Expr → List Kind → List Kind → Type 0
IsExpr goal limit e front [] = ⊥
IsExpr goal limit e front (t ∷ rest) =
    IsOf goal e × (tokens e [] ≡ front) × (height e ≤ limit)
    × (BeginsExpr goal (front ++ t ∷ []) → ⊥)

-- A token that is refused also after an expression, since only an operand can begin with it: an
-- f-string where a string or a comma stands in front of it, and `not` or a sign after a comma of
-- what a `for` assigns to.
abbrev pub IsRefused : Goal → Kind → Type 0
IsRefused g (FString ps) = Unit {0}
IsRefused target (Word word.Not) = Unit {0}
IsRefused target (Sign mark.Plus) = Unit {0}
IsRefused target (Sign mark.Minus) = Unit {0}
IsRefused g t = ⊥

-- The tokens in front begin such an expression, and begin none with the one after them; where they
-- are one, that token is refused. Or the list ends.
abbrev pub IsUnexpected : Goal → ℕ → List Kind → List Kind → Type 0
IsUnexpected goal limit front [] = BeginsWithin goal limit front
IsUnexpected goal limit front (t ∷ rest) =
    BeginsWithin goal limit front × (BeginsExpr goal (front ++ t ∷ []) → ⊥)
    × (IsTree goal front → IsRefused goal t)

-- With the token after them, the tokens in front begin only expressions that are higher than the
-- limit.
abbrev pub IsTooDeep : Goal → ℕ → List Kind → List Kind → Type 0
IsTooDeep goal limit front rest = IsTooDeepAfter (HasTokens goal) (IsWithin limit) front rest

-- a list of tokens is that of one such expression at most
abbrev pub OneOf : Goal → Type 0
OneOf goal = (d e : Expr) → IsOf goal d → IsOf goal e → tokens d [] ≡ tokens e [] → d ≡ e
