-- Whether two parts of trees are the same, as they were written. Lines stand in statements alone,
-- so there are none here.
--     same_bool .. same_alias          what stands in nodes
--     same_expr, same_exprs            expressions; same_pairs and the like for what stands in them
--     same_maybe                       an expression that may be missing
--     same_constant, same_pattern      patterns, and the constants in them
use Rattle.std.specs.Prelude.{nat_eq, ℤ, pos, negsuc, Bool, true, false, ◌&&◌, List, [], ◌∷◌, Option, Some, None}
use Rattle.py_operator.specs.declared.operator.BinOp.{BinOp}
use Rattle.py_operator.specs.declared.operator.BinOp.TheVariants.{Add, Sub, Mul, Floor, Mod}
use Rattle.py_operator.specs.declared.operator.CmpOp.{CmpOp}
use Rattle.py_operator.specs.declared.operator.CmpOp.TheVariants.{Eq, Ne, Lt, Le, Gt, Ge, In, NotIn}
use Rattle.py_text.specs.Comparison.{is_same_text}
use Rattle.py_syntax.specs.declared.expr.Comparison.{Comparison}
use Rattle.py_syntax.specs.declared.expr.Comparison.TheVariants.{Op, Is, IsNot}
use Rattle.py_syntax.specs.declared.expr.Sign.{Sign}
use Rattle.py_syntax.specs.declared.expr.Sign.TheVariants.{Minus, Plus}
use Rattle.py_syntax.specs.declared.pattern.Brackets.{Brackets}
use Rattle.py_syntax.specs.declared.pattern.Brackets.TheVariants.{Round, Square, Bare}
use Rattle.py_syntax.specs.Tree.{Text, Expr, name, int, str, fstr, none, bool, tuple, list, dict, paren, not', and, or, unary, binary, compare, cond, call, index, slice, attr, Exprs, no_exprs, exprs, Pairs, no_pairs, pair, Links, no_links, link, OptExpr, absent, present, Fragments, no_fragments, plain, format, Parts, no_parts, text, field}
use Rattle.py_syntax.specs.Tree.{Constant, c_int, c_str, c_none, c_bool, Pattern, literal, capture, wild, member, sequence, p_or, p_as, p_paren, Patterns, no_patterns, patterns, Alias}

-- truth values
abbrev pub same_bool : Bool → Bool → Bool
same_bool true true = true
same_bool false false = true
same_bool a b = false

-- whole numbers
abbrev pub same_int : ℤ → ℤ → Bool
same_int (pos m) (pos n) = nat_eq m n
same_int (negsuc m) (negsuc n) = nat_eq m n
same_int a b = false

-- operators between two values
abbrev pub same_operator : BinOp → BinOp → Bool
same_operator Add Add = true
same_operator Sub Sub = true
same_operator Mul Mul = true
same_operator Floor Floor = true
same_operator Mod Mod = true
same_operator a b = false

-- comparisons that an operator names
abbrev pub same_comparison_operator : CmpOp → CmpOp → Bool
same_comparison_operator Eq Eq = true
same_comparison_operator Ne Ne = true
same_comparison_operator Lt Lt = true
same_comparison_operator Le Le = true
same_comparison_operator Gt Gt = true
same_comparison_operator Ge Ge = true
same_comparison_operator In In = true
same_comparison_operator NotIn NotIn = true
same_comparison_operator a b = false

-- comparisons, also by `is`
abbrev pub same_comparison : Comparison → Comparison → Bool
same_comparison (Op a) (Op b) = same_comparison_operator a b
same_comparison Is Is = true
same_comparison IsNot IsNot = true
same_comparison a b = false

-- signs
abbrev pub same_sign : Sign → Sign → Bool
same_sign Minus Minus = true
same_sign Plus Plus = true
same_sign a b = false

-- brackets of a sequence pattern
abbrev pub same_brackets : Brackets → Brackets → Bool
same_brackets Round Round = true
same_brackets Square Square = true
same_brackets Bare Bare = true
same_brackets a b = false

-- two lists, item by item, by what compares items
abbrev pub same_list : {A : Type 0} → (A → A → Bool) → List A → List A → Bool
same_list same [] [] = true
same_list same (x ∷ xs) (y ∷ ys) = same x y && same_list same xs ys
same_list same xs ys = false

-- what may be missing: both are, or both are there and the same
abbrev pub same_option : {A : Type 0} → (A → A → Bool) → Option A → Option A → Bool
same_option same None None = true
same_option same (Some a) (Some b) = same a b
same_option same a b = false

-- lists of names, or of pieces of a string
abbrev pub same_texts : List Text → List Text → Bool
same_texts = same_list is_same_text

-- a name that is imported, and the name after its `as`
abbrev pub same_alias : Alias → Alias → Bool
same_alias a b = is_same_text a.name b.name && same_option is_same_text a.bound b.bound

abbrev mutual
  -- two expressions, form by form; trailing commas and parentheses count
  pub same_expr : Expr → Expr → Bool
  same_expr (name x) (name y) = is_same_text x y
  same_expr (int m) (int n) = same_int m n
  same_expr (str ps) (str qs) = same_texts ps qs
  same_expr (fstr fs) (fstr gs) = same_fragments fs gs
  same_expr none none = true
  same_expr (bool b) (bool c) = same_bool b c
  same_expr (tuple es c) (tuple fs d) = same_exprs es fs && same_bool c d
  same_expr (list es c) (list fs d) = same_exprs es fs && same_bool c d
  same_expr (dict ps c) (dict qs d) = same_pairs ps qs && same_bool c d
  same_expr (paren e) (paren f) = same_expr e f
  same_expr (not' e) (not' f) = same_expr e f
  same_expr (and a b) (and c d) = same_expr a c && same_expr b d
  same_expr (or a b) (or c d) = same_expr a c && same_expr b d
  same_expr (unary s e) (unary t f) = same_sign s t && same_expr e f
  same_expr (binary op a b) (binary oq c d) =
      same_operator op oq && (same_expr a c && same_expr b d)
  same_expr (compare a ls) (compare b ms) = same_expr a b && same_links ls ms
  same_expr (cond a b c) (cond d e f) = same_expr a d && (same_expr b e && same_expr c f)
  same_expr (call f es c) (call g fs d) = same_expr f g && (same_exprs es fs && same_bool c d)
  same_expr (index f e) (index g d) = same_expr f g && same_expr e d
  same_expr (slice f a b) (slice g c d) = same_expr f g && (same_opt a c && same_opt b d)
  same_expr (attr f x) (attr g y) = same_expr f g && is_same_text x y
  same_expr a b = false

  -- expressions in a row
  pub same_exprs : Exprs → Exprs → Bool
  same_exprs no_exprs no_exprs = true
  same_exprs (exprs e es) (exprs f fs) = same_expr e f && same_exprs es fs
  same_exprs es fs = false

  -- the keys and values of a dict
  pub same_pairs : Pairs → Pairs → Bool
  same_pairs no_pairs no_pairs = true
  same_pairs (pair k e ps) (pair j f qs) = same_expr k j && (same_expr e f && same_pairs ps qs)
  same_pairs ps qs = false

  -- the operators and operands of a chain of comparisons
  pub same_links : Links → Links → Bool
  same_links no_links no_links = true
  same_links (link c e ls) (link d f ms) =
      same_comparison c d && (same_expr e f && same_links ls ms)
  same_links ls ms = false

  -- a bound of a slice, which may be missing
  pub same_opt : OptExpr → OptExpr → Bool
  same_opt absent absent = true
  same_opt (present e) (present f) = same_expr e f
  same_opt a b = false

  -- the pieces of an f-string
  pub same_fragments : Fragments → Fragments → Bool
  same_fragments no_fragments no_fragments = true
  same_fragments (plain x fs) (plain y gs) = is_same_text x y && same_fragments fs gs
  same_fragments (format ps fs) (format qs gs) = same_parts ps qs && same_fragments fs gs
  same_fragments fs gs = false

  -- what stands in a piece of an f-string
  pub same_parts : Parts → Parts → Bool
  same_parts no_parts no_parts = true
  same_parts (text x ps) (text y qs) = is_same_text x y && same_parts ps qs
  same_parts (field e ps) (field f qs) = same_expr e f && same_parts ps qs
  same_parts ps qs = false

-- an expression of a statement, which may be missing
abbrev pub same_maybe : Option Expr → Option Expr → Bool
same_maybe = same_option same_expr

-- the constants of patterns
abbrev pub same_constant : Constant → Constant → Bool
same_constant (c_int m) (c_int n) = same_int m n
same_constant (c_str ps) (c_str qs) = same_texts ps qs
same_constant c_none c_none = true
same_constant (c_bool b) (c_bool c) = same_bool b c
same_constant a b = false

abbrev mutual
  -- two patterns, form by form
  pub same_pattern : Pattern → Pattern → Bool
  same_pattern (literal m c) (literal n d) = same_bool m n && same_constant c d
  same_pattern (capture x) (capture y) = is_same_text x y
  same_pattern wild wild = true
  same_pattern (member m x) (member n y) = is_same_text m n && is_same_text x y
  same_pattern (sequence b ps c) (sequence d qs e) =
      same_brackets b d && (same_patterns ps qs && same_bool c e)
  same_pattern (p_or ps) (p_or qs) = same_patterns ps qs
  same_pattern (p_as p x) (p_as q y) = same_pattern p q && is_same_text x y
  same_pattern (p_paren p) (p_paren q) = same_pattern p q
  same_pattern p q = false

  -- patterns in a row
  pub same_patterns : Patterns → Patterns → Bool
  same_patterns no_patterns no_patterns = true
  same_patterns (patterns p ps) (patterns q qs) = same_pattern p q && same_patterns ps qs
  same_patterns ps qs = false
