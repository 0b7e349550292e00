-- The fields of f-strings, as the code reads them (The Python Language Reference, "Formatted string
-- literals").
--     takes_string, NoFString           where a string may stand, and a token that is no f-string
--     HasPieces, has_spelled_fields     the pieces of an f-string, and whether its fields are trees
--     IsField, ended_turn, AreParts     the trees of the fields under a limit
--     IsHigh .. Takes                   what a token makes within the limit
use Rattle.std.specs.Prelude.{◌≡◌, ℕ, ◌≤◌, ◌<◌, Bool, true, false, List, Option, Some, None, is_some, Result, Ok, Err}
use Rattle.std.specs.declared.alloc.AllocError.{AllocError}
use Rattle.std.specs.Borrow.{Bor}
use Rattle.py_token.specs.declared.token.Piece.{Piece}
use Rattle.py_token.specs.declared.token.TokenKind.{TokenKind}
use Rattle.py_token.specs.View.{view_kind}
use Rattle.py_syntax.specs.Tree.{Expr, Parts}
use Rattle.py_syntax.specs.Kinds.{Kind, FString, bare_kind}
use Rattle.py_syntax.specs.Normal.{height, height_parts}
use Rattle.py_parse_expr.specs.declared.expr_nodes.Measured.{Measured}
use Rattle.py_parse_expr.specs.declared.expr_nodes.Fields.{Fields}
use Rattle.py_parse_expr.specs.declared.expr_stack.Stack.{Stack}
use Rattle.py_parse_expr.specs.declared.expr_turns.Progress.{Progress}
use Rattle.py_parse_expr.specs.declared.expr_turns.Turn.{Turn}
use Rattle.py_parse_expr.specs.declared.expr_turns.Turn.TheVariants as turn_
use Rattle.py_parse_expr.specs.declared.expr_fields.Unread.{Unread}
use Rattle.py_parse_expr.specs.declared.expr_fields.Unread.TheVariants as unread_
use Rattle.py_grammar.specs.Machine.{State, Have, AfterDot, AfterNot, AfterIs, AfterIsNot, Linked, Out, Next, Stuck, step, class, parts}
use Rattle.py_grammar.specs.Least.{least}
use Rattle.py_parse_expr.specs.ExprViews.{view_measured, IsMeasured, view_fields, AreFields}
use Rattle.py_parse_expr.specs.ExprStacks.{view_stack}
use Rattle.py_parse_expr.specs.ExprTurns.{view_at, TurnsTo}
use Rattle.py_parse_fields.specs.Order.{plain_pieces}

-- whether a string may stand there
abbrev pub takes_string : State → Bool
takes_string (Have e k) = false
takes_string (AfterDot f k) = false
takes_string (AfterNot a ls k) = false
takes_string (AfterIs a ls k) = false
takes_string (AfterIsNot a ls k) = false
takes_string (Linked a ls k) = false
takes_string s = true

-- a token that is no f-string
abbrev pub NoFString : Kind → Type 0
NoFString (FString ps) = ⊥
NoFString t = Unit {0}

-- the pieces of an f-string
abbrev pub HasPieces : Kind → Option (Bor (List Piece)) → Type 0
HasPieces t (Some ps) = t ≡ FString (plain_pieces ps.now)
HasPieces t None = NoFString t

-- whether the fields of a token are expressions
abbrev pub has_spelled_fields : Kind → Bool
has_spelled_fields (FString ps) = is_some (parts ps)
has_spelled_fields t = true

-- ---- the fields of one f-string

-- The tree of a field under a limit of heights. A field that is said to be too deep may have none.
abbrev pub IsField : ℕ → Option Expr → Result Measured Unread → Type 0
IsField limit o (Ok t) = (o ≡ Some (view_measured t)) × IsMeasured t
IsField limit o (Err unread_.Unspelled) = o ≡ None
IsField limit o (Err unread_.TooDeep) = (e : Expr) → o ≡ Some e → limit < height e

-- the answer after the last token of a field
abbrev pub ended_turn : Turn → Result Measured Unread
ended_turn (turn_.Left t) = Ok t
ended_turn turn = Err unread_.Unspelled

-- The same of all fields of an f-string, which is one higher.
abbrev pub AreParts : ℕ → Option Parts → Result Fields Unread → Type 0
AreParts limit o (Ok fs) = (o ≡ Some (view_fields fs)) × AreFields fs
AreParts limit o (Err unread_.Unspelled) = o ≡ None
AreParts limit o (Err unread_.TooDeep) = (qs : Parts) → o ≡ Some qs → limit ≤ height_parts qs

-- ---- a token

-- every expression after the token is too high
abbrev pub IsHigh : ℕ → Out → Type 0
IsHigh limit o = (n : State) × (o ≡ Next n) × (limit < least n)

-- every expression after the token is too high, or none goes on with it
abbrev pub IsHighIf : Bool → ℕ → Out → Type 0
IsHighIf true limit o = IsHigh limit o
IsHighIf false limit o = o ≡ Stuck

-- What a token makes within a limit, where a token that is said to be too high may have a field
-- that is no expression.
abbrev pub GoesTo : Out → ℕ → Stack → Kind → Turn → Type 0
GoesTo o limit s t turn_.Deep = IsHighIf (has_spelled_fields t) limit o
GoesTo o limit s t turn = TurnsTo o limit s turn

-- the same, where memory lasts
abbrev pub Goes : Out → ℕ → Stack → Kind → Result Turn AllocError → Type 0
Goes o limit s t (Ok turn) = GoesTo o limit s t turn
Goes o limit s t (Err e) = Unit {0}

-- The same of a place in an expression.
abbrev pub Takes : Progress → TokenKind → Stack → Stack → Result Turn AllocError → Type 0
Takes p t old new r =
    Goes (step (view_at p (view_stack old)) (class (bare_kind (view_kind t)))) old.limit new
    (bare_kind (view_kind t)) r
