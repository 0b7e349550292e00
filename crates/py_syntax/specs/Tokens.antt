-- The tokens of an expression or a pattern, and then others.
--     comma_if .. comparison            the tokens of what isn't an expression
--     tokens                            the tokens of an expression; items, entries, links, bound,
--                                       fragments and pieces are those of what stands in one
--     underscore, minus_if, constant    the tokens of what isn't a pattern
--     pattern_tokens                    the tokens of a pattern; pattern_items and alternatives
use Rattle.std.specs.Prelude.{Bool, true, false, List, [], ◌∷◌}
use Rattle.py_operator.specs.declared.operator.BinOp.{BinOp}
use Rattle.py_operator.specs.declared.operator.BinOp.TheVariants as op_
use Rattle.py_operator.specs.declared.operator.CmpOp.TheVariants as cmp_
use Rattle.py_token.specs.declared.token.Keyword.TheVariants as word
use Rattle.py_token.specs.declared.token.Mark.{Mark}
use Rattle.py_token.specs.declared.token.Mark.TheVariants as mark
use Rattle.py_syntax.specs.declared.expr.Comparison.{Comparison}
use Rattle.py_syntax.specs.declared.expr.Comparison.TheVariants.{Op, Is, IsNot}
use Rattle.py_syntax.specs.declared.expr.Sign.{Sign as UnarySign}
use Rattle.py_syntax.specs.declared.expr.Sign.TheVariants as sign_
use Rattle.py_syntax.specs.declared.pattern.Brackets.TheVariants.{Round, Square, Bare}
use Rattle.py_syntax.specs.Tree.{Text, Expr, name, int, str, fstr, none, bool, tuple, list, dict, paren, not', and, or, unary, binary, compare, cond, call, index, slice, attr, Exprs, no_exprs, exprs, Pairs, no_pairs, pair, Links, no_links, link, OptExpr, absent, present, Fragments, no_fragments, plain, format, Parts, no_parts, text, field}
use Rattle.py_syntax.specs.Tree.{Constant, c_int, c_str, c_none, c_bool, Pattern, literal, capture, wild, member, sequence, p_or, p_as, p_paren, Patterns, no_patterns, patterns}
use Rattle.py_syntax.specs.Kinds.{Kind, Name, Word, Int, Str, FString, Sign, Pieces, no_pieces, chars_piece, field_piece, kinds_of}

-- a comma, where there is one
abbrev pub comma_if : Bool → List Kind → List Kind
comma_if true rest = Sign mark.Comma ∷ rest
comma_if false rest = rest

-- neighbouring strings
abbrev pub strings : List Text → List Kind → List Kind
strings [] rest = rest
strings (x ∷ xs) rest = Str x ∷ strings xs rest

-- the word of a truth value
abbrev pub bool_word : Bool → Kind
bool_word true = Word word.True
bool_word false = Word word.False

-- the mark of an operator
abbrev pub operator : BinOp → Mark
operator op_.Add = mark.Plus
operator op_.Sub = mark.Minus
operator op_.Mul = mark.Star
operator op_.Floor = mark.DoubleSlash
operator op_.Mod = mark.Percent

-- the mark of a sign
abbrev pub sign_mark : UnarySign → Mark
sign_mark sign_.Minus = mark.Minus
sign_mark sign_.Plus = mark.Plus

-- a comparison is one or two tokens
abbrev pub comparison : Comparison → List Kind → List Kind
comparison (Op cmp_.Eq) rest = Sign mark.EqualEqual ∷ rest
comparison (Op cmp_.Ne) rest = Sign mark.NotEqual ∷ rest
comparison (Op cmp_.Lt) rest = Sign mark.Less ∷ rest
comparison (Op cmp_.Le) rest = Sign mark.LessEqual ∷ rest
comparison (Op cmp_.Gt) rest = Sign mark.Greater ∷ rest
comparison (Op cmp_.Ge) rest = Sign mark.GreaterEqual ∷ rest
comparison (Op cmp_.In) rest = Word word.In ∷ rest
comparison (Op cmp_.NotIn) rest = Word word.Not ∷ Word word.In ∷ rest
comparison Is rest = Word word.Is ∷ rest
comparison IsNot rest = Word word.Is ∷ Word word.Not ∷ rest

abbrev mutual
  -- an expression
  pub tokens : Expr → List Kind → List Kind
  tokens (name x) rest = Name x ∷ rest
  tokens (int n) rest = Int n ∷ rest
  tokens (str ps) rest = strings ps rest
  tokens (fstr fs) rest = fragments fs rest
  tokens none rest = Word word.None ∷ rest
  tokens (bool b) rest = bool_word b ∷ rest
  tokens (tuple no_exprs c) rest = Sign mark.LeftParen ∷ Sign mark.RightParen ∷ rest
  tokens (tuple (exprs e es) c) rest = tokens e (more es c rest)
  tokens (list es c) rest = Sign mark.LeftBracket ∷ items es c (Sign mark.RightBracket ∷ rest)
  tokens (dict ps c) rest = Sign mark.LeftBrace ∷ entries ps c (Sign mark.RightBrace ∷ rest)
  tokens (paren e) rest = Sign mark.LeftParen ∷ tokens e (Sign mark.RightParen ∷ rest)
  tokens (not' e) rest = Word word.Not ∷ tokens e rest
  tokens (and a b) rest = tokens a (Word word.And ∷ tokens b rest)
  tokens (or a b) rest = tokens a (Word word.Or ∷ tokens b rest)
  tokens (unary s e) rest = Sign (sign_mark s) ∷ tokens e rest
  tokens (binary op a b) rest = tokens a (Sign (operator op) ∷ tokens b rest)
  tokens (compare a ls) rest = tokens a (links ls rest)
  tokens (cond b t o) rest = tokens b (Word word.If ∷ tokens t (Word word.Else ∷ tokens o rest))
  tokens (call f es c) rest =
      tokens f (Sign mark.LeftParen ∷ items es c (Sign mark.RightParen ∷ rest))
  tokens (index f e) rest =
      tokens f (Sign mark.LeftBracket ∷ tokens e (Sign mark.RightBracket ∷ rest))
  tokens (slice f from to) rest =
      tokens f
      (Sign mark.LeftBracket
      ∷ bound from (Sign mark.Colon ∷ bound to (Sign mark.RightBracket ∷ rest)))
  tokens (attr f x) rest = tokens f (Sign mark.Dot ∷ Name x ∷ rest)

  -- items with commas between them, and whether one stands after the last
  pub items : Exprs → Bool → List Kind → List Kind
  items no_exprs c rest = rest
  items (exprs e es) c rest = tokens e (more es c rest)

  -- the items after the first
  pub more : Exprs → Bool → List Kind → List Kind
  more no_exprs c rest = comma_if c rest
  more (exprs e es) c rest = Sign mark.Comma ∷ tokens e (more es c rest)

  -- keys with their values, and whether a comma stands after the last
  pub entries : Pairs → Bool → List Kind → List Kind
  entries no_pairs c rest = rest
  entries (pair k v ps) c rest = tokens k (Sign mark.Colon ∷ tokens v (more_entries ps c rest))

  -- the entries after the first
  pub more_entries : Pairs → Bool → List Kind → List Kind
  more_entries no_pairs c rest = comma_if c rest
  more_entries (pair k v ps) c rest =
      Sign mark.Comma ∷ tokens k (Sign mark.Colon ∷ tokens v (more_entries ps c rest))

  -- each operator with its right operand
  pub links : Links → List Kind → List Kind
  links no_links rest = rest
  links (link op e ls) rest = comparison op (tokens e (links ls rest))

  -- a bound of a slice
  pub bound : OptExpr → List Kind → List Kind
  bound absent rest = rest
  bound (present e) rest = tokens e rest

  -- neighbouring strings, some with fields
  pub fragments : Fragments → List Kind → List Kind
  fragments no_fragments rest = rest
  fragments (plain x fs) rest = Str x ∷ fragments fs rest
  fragments (format ps fs) rest = FString (pieces ps) ∷ fragments fs rest

  -- what stands in an f-string, as one token holds it
  pub pieces : Parts → Pieces
  pieces no_parts = no_pieces
  pieces (text x ps) = chars_piece x (pieces ps)
  pieces (field e ps) = field_piece (kinds_of (tokens e [])) (pieces ps)

-- the name `_`
abbrev pub underscore : Text
underscore = 95 ∷ []

-- a minus, where there is one
abbrev pub minus_if : Bool → List Kind → List Kind
minus_if true rest = Sign mark.Minus ∷ rest
minus_if false rest = rest

-- a literal
abbrev pub constant : Constant → List Kind → List Kind
constant (c_int n) rest = Int n ∷ rest
constant (c_str ps) rest = strings ps rest
constant c_none rest = Word word.None ∷ rest
constant (c_bool b) rest = bool_word b ∷ rest

abbrev mutual
  -- a pattern
  pub pattern_tokens : Pattern → List Kind → List Kind
  pattern_tokens (literal minus c) rest = minus_if minus (constant c rest)
  pattern_tokens (capture x) rest = Name x ∷ rest
  pattern_tokens wild rest = Name underscore ∷ rest
  pattern_tokens (member m x) rest = Name m ∷ Sign mark.Dot ∷ Name x ∷ rest
  pattern_tokens (sequence Round ps c) rest =
      Sign mark.LeftParen ∷ pattern_items ps c (Sign mark.RightParen ∷ rest)
  pattern_tokens (sequence Square ps c) rest =
      Sign mark.LeftBracket ∷ pattern_items ps c (Sign mark.RightBracket ∷ rest)
  pattern_tokens (sequence Bare ps c) rest = pattern_items ps c rest
  pattern_tokens (p_or no_patterns) rest = rest
  pattern_tokens (p_or (patterns p ps)) rest = pattern_tokens p (alternatives ps rest)
  pattern_tokens (p_as p x) rest = pattern_tokens p (Word word.As ∷ Name x ∷ rest)
  pattern_tokens (p_paren p) rest =
      Sign mark.LeftParen ∷ pattern_tokens p (Sign mark.RightParen ∷ rest)

  -- patterns with commas between them, and whether one stands after the last
  pub pattern_items : Patterns → Bool → List Kind → List Kind
  pattern_items no_patterns c rest = rest
  pattern_items (patterns p ps) c rest = pattern_tokens p (more_patterns ps c rest)

  -- the patterns after the first
  pub more_patterns : Patterns → Bool → List Kind → List Kind
  more_patterns no_patterns c rest = comma_if c rest
  more_patterns (patterns p ps) c rest =
      Sign mark.Comma ∷ pattern_tokens p (more_patterns ps c rest)

  -- the alternatives after the first
  pub alternatives : Patterns → List Kind → List Kind
  alternatives no_patterns rest = rest
  alternatives (patterns p ps) rest = Sign mark.Bar ∷ pattern_tokens p (alternatives ps rest)
