-- What all trees say of where the machine of expressions ends.
use Rattle.std.specs.Prelude.{ℕ, ◌≤◌, List}
use Rattle.py_syntax.specs.Tree.{Expr}
use Rattle.py_syntax.specs.Kinds.{Kind}
use Rattle.py_grammar.specs.Machine.{Goal, start}
use Rattle.py_grammar.specs.Reading.{Unexpected, TooDeep, Reads, EndsAt, Parted}
use Rattle.py_grammar.specs.ExprTrees.{IsAsked, IsExpr, IsUnexpected, IsTooDeep}

-- Where the machine ends after an expression, the tokens between the places are its tokens, and the
-- next goes on with none; and where it ends otherwise, why there is no expression.
pub record IsExact (goal : Goal) (limit : ℕ) (ts : List Kind) (at place : ℕ) : Type 0 where
  pub reads : (e : Expr) → EndsAt limit (start goal) ts at place (Reads e)
      → Parted ts at place (IsExpr goal limit e)
  pub unexpected : EndsAt limit (start goal) ts at place Unexpected
      → Parted ts at place (IsUnexpected goal limit)
  pub too_deep : EndsAt limit (start goal) ts at place TooDeep
      → Parted ts at place (IsTooDeep goal limit)

-- the same of all goals, limits, lists and places
abbrev pub IsExactEverywhere : Type 0
IsExactEverywhere =
    (goal : Goal) (limit : ℕ) (ts : List Kind) (at place : ℕ) → IsAsked goal → 1 ≤ limit
    → IsExact goal limit ts at place
