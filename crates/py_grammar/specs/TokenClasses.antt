-- What a token is to an expression.
--     BinaryOperator, TokenClass              what a token is to an expression
--     operator_precedence .. operator_kind    an operator: the precedences of its tree and of its
--                                             right operand, its tree and its token
--     binds, begins                           where a token goes on with an expression, and where
--                                             it begins one
--     spelled                                 the tokens of a class
use Rattle.std.specs.Prelude.{ℤ, nat_eq, Bool, true, false, List, ◌∷◌}
use Rattle.py_operator.specs.declared.operator.BinOp.{BinOp}
use Rattle.py_operator.specs.declared.operator.CmpOp.{CmpOp}
use Rattle.py_token.specs.declared.token.Keyword.TheVariants as word
use Rattle.py_token.specs.declared.token.Mark.TheVariants as mark
use Rattle.py_syntax.specs.declared.expr.Comparison.TheVariants.{Op}
use Rattle.py_syntax.specs.Tree.{Text, Expr, and, or, binary, Parts}
use Rattle.py_syntax.specs.Kinds.{Kind, Name, Word, Int, Str, FString, Sign, Pieces}
use Rattle.py_syntax.specs.Tokens.{bool_word, operator, comparison, pieces}
use Rattle.py_syntax.specs.Normal.{Precedence, LEnd, LExprs, LExpr, LOr, LAnd, LNot, LCmp, LPost, rank, op_precedence, right_precedence}

-- an operator that joins two operands and groups to the left
pub data BinaryOperator : Type 0 where
  b_or : BinaryOperator
  b_and : BinaryOperator
  b_op : (op : BinOp) → BinaryOperator

-- what a token is to an expression
pub data TokenClass : Type 0 where
  t_name : (x : Text) → TokenClass
  t_int : (n : ℤ) → TokenClass
  t_none : TokenClass
  t_bool : (b : Bool) → TokenClass
  t_string : (x : Text) → TokenClass
  -- an f-string with the trees of its fields
  t_format : (ps : Parts) → TokenClass
  -- an f-string with a field that no `exprs` spells
  t_bad_format : (ps : Pieces) → TokenClass
  t_not : TokenClass
  t_is : TokenClass
  t_if : TokenClass
  t_else : TokenClass
  t_compare : (op : CmpOp) → TokenClass
  t_operator : (j : BinaryOperator) → TokenClass
  t_comma : TokenClass
  t_colon : TokenClass
  t_dot : TokenClass
  t_left_paren : TokenClass
  t_right_paren : TokenClass
  t_left_bracket : TokenClass
  t_right_bracket : TokenClass
  t_left_brace : TokenClass
  t_right_brace : TokenClass
  -- a token that stands in no expression
  t_other : (k : Kind) → TokenClass

-- the precedence of an operator, which is that of its trees
abbrev pub operator_precedence : BinaryOperator → Precedence
operator_precedence b_or = LOr
operator_precedence b_and = LAnd
operator_precedence (b_op op) = op_precedence op

-- the precedence that its right operand has at least
abbrev pub operator_right : BinaryOperator → Precedence
operator_right b_or = LAnd
operator_right b_and = LNot
operator_right (b_op op) = right_precedence op

-- the tree of two operands
abbrev pub joined : BinaryOperator → Expr → Expr → Expr
joined b_or a b = or a b
joined b_and a b = and a b
joined (b_op op) a b = binary op a b

-- the token of an operator
abbrev pub operator_kind : BinaryOperator → Kind
operator_kind b_or = Word word.Or
operator_kind b_and = Word word.And
operator_kind (b_op op) = Sign (operator op)

-- The precedence at which a token goes on with an expression.
abbrev pub binds : TokenClass → Precedence
binds t_left_paren = LPost
binds t_left_bracket = LPost
binds t_dot = LPost
binds (t_operator j) = operator_precedence j
binds (t_compare op) = LCmp
binds t_is = LCmp
binds t_not = LCmp
binds t_if = LExpr
binds t_comma = LExprs
binds _ = LEnd

-- Whether an expression may begin with it.
abbrev pub begins : TokenClass → Bool
begins (t_name x) = true
begins (t_int n) = true
begins t_none = true
begins (t_bool b) = true
begins (t_string x) = true
begins (t_format ps) = true
begins (t_bad_format ps) = true
begins t_not = true
begins (t_operator (b_op op)) = nat_eq (rank (op_precedence op)) 7
begins t_left_paren = true
begins t_left_bracket = true
begins t_left_brace = true
begins _ = false

-- The tokens of a class, and then others.
abbrev pub spelled : TokenClass → List Kind → List Kind
spelled (t_name x) rest = Name x ∷ rest
spelled (t_int n) rest = Int n ∷ rest
spelled t_none rest = Word word.None ∷ rest
spelled (t_bool b) rest = bool_word b ∷ rest
spelled (t_string x) rest = Str x ∷ rest
spelled (t_format ps) rest = FString (pieces ps) ∷ rest
spelled (t_bad_format ps) rest = FString ps ∷ rest
spelled t_not rest = Word word.Not ∷ rest
spelled t_is rest = Word word.Is ∷ rest
spelled t_if rest = Word word.If ∷ rest
spelled t_else rest = Word word.Else ∷ rest
spelled (t_compare op) rest = comparison (Op op) rest
spelled (t_operator j) rest = operator_kind j ∷ rest
spelled t_comma rest = Sign mark.Comma ∷ rest
spelled t_colon rest = Sign mark.Colon ∷ rest
spelled t_dot rest = Sign mark.Dot ∷ rest
spelled t_left_paren rest = Sign mark.LeftParen ∷ rest
spelled t_right_paren rest = Sign mark.RightParen ∷ rest
spelled t_left_bracket rest = Sign mark.LeftBracket ∷ rest
spelled t_right_bracket rest = Sign mark.RightBracket ∷ rest
spelled t_left_brace rest = Sign mark.LeftBrace ∷ rest
spelled t_right_brace rest = Sign mark.RightBrace ∷ rest
spelled (t_other k) rest = k ∷ rest
